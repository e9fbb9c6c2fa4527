-- What these proofs call by a name of other modules.
pub use Rattle.std.proofs.Common.{Bool, List, None, Option, Some, [], add-one, ap, arith, cond, drop, eqb, false, get_or, if◌then◌else◌, inl, inr, leb, length, length-append, ltb, map, nat_eq, nat_le, nat_lt, not, refl, replicate, rules, set, slice_get, subst, suc, sym, take, true, zero, ℕ, ◌&&◌, ◌*◌, ◌++◌, ◌+◌, ◌-◌, ◌<◌, ◌^◌, ◌||◌, ◌↔◌, ◌∙◌, ◌∷◌, ◌≡◌, ◌≢◌, ◌≤◌, ◌⊎◌}
pub use Rattle.std.specs.Prelude.{Contains, IsSome, IsTrue, bit_and, is_none, is_some, position, sum_by}
pub use Rattle.std.specs.List.{All, list_any, position_or_len, range_with_len}
pub use Rattle.std.specs.List.Sorted.{IsStrictlyIncreasing}
pub use Rattle.std.proofs.Math.Nat.{suc-add}
pub use Rattle.std.proofs.lemmas.Bool.{and_from, and_parts, cases_Bool, cases_eq, cases_lt, cond-false, cond-true, eq-eqb, eqb-false, eqb-true, false_from_ne_true, le-ltb, lt-leb, ltb-false, ltb-true, ne_eqb, or_cases, or_from, or_left, or_parts, or_right}
pub use Rattle.std.proofs.lemmas.List.{get_or-map, get_or-set_other, get_or-set_same, get_or_append_left, get_or_default, get_or_past, get_or_push, length-map, length-replicate, length-set, length_push, map-append, map-id, map-set, take_all, take_at, take_more}
pub use Rattle.mips_instructions.specs.Words.{has}
pub use Rattle.mips_instructions.specs.Instruction.{dests, released}
pub use Rattle.task_descriptor.specs.Listing.{IsWellFormed, Listing, build_fault, collide, has_bad_entry, has_bad_mask, has_destination, has_duplicate, has_no_task, is_bad_mark, is_too_many, mark_fault, registers, release_fits, starts_at_no_entry, stop_fits}
pub use Rattle.task_descriptor.specs.declared.descriptor.Marked.{Marked}
pub use Rattle.task_descriptor.specs.declared.descriptor.Descriptor.{Descriptor}
pub use Rattle.task_graph.specs.Edges.{Edge, MayWrite, Path, edge, end_of, ends_of, is_indirect, leaves, onward, sends, stay}
pub use Rattle.task_graph.specs.Members.{Reaches}
pub use Rattle.mask_certificate.specs.Lists.{Rises, entries_of, fault_in, first_fault, list_of, mask_at}
pub use Rattle.mark_checker.specs.CheckerSteps.{holds_at}
pub use Rattle.mark_checker.proofs.Ahead.{any_of, holds_some, some_holds}
pub use Rattle.annotator.specs.Least.{IsLeast, IsWithin, LeastList}
pub use Rattle.std.proofs.lemmas.List.Elements.{All-head, All-map, All-tail, Contains-append_left, Contains-get_or, Contains-push, Contains-push_cases}
pub use Rattle.std.proofs.lemmas.Map.Made.{Contains-tail}
pub use Rattle.std.proofs.lemmas.Option.{get_or_from_slice_get, slice_get-get_or, slice_get_read, slice_get_within}
pub use Rattle.annotator.specs.Spreading.{AreDestinations, AreExact, AreLeading, Widened, left_to_do, lists_of, may, room_of, sources_of, with_source}
pub use Rattle.mips_instructions.specs.declared.instruction.Op.{Op}
pub use Rattle.task_descriptor.specs.WellFormed.{limits, passes}
pub use Rattle.task_graph.specs.declared.edges.Next.{Next}
pub use Rattle.task_graph.specs.SearchSteps.{is_marked}
pub use Rattle.task_graph.specs.Neighbours.{Follows, is_among, is_it}
pub use Rattle.task_graph.proofs.Searches.{first_inside, it, second_inside, that, unmarked_first}
pub use Rattle.annotator.specs.Proposed.{IsMember, IsProposed, IsRedescribed, IsRemarked, Produces, WritesLast, produces}
pub use Rattle.annotator.specs.Marking.{AreCreates, AreForwards, AreMarked, AreMembers, ProducedAt, WrittenBehind, indices_of, with_creates, with_forwards, with_marks}
pub use Rattle.std.proofs.lemmas.List.Sums.{fails_before_first, sum_by-set}
pub use Rattle.std.specs.declared.alloc.Global.{Global}
pub use Rattle.std.specs.declared.vec.Vec.{Vec}
pub use Rattle.mips_instructions.proofs.SetLemmas.{has-empty, subset_iff}
