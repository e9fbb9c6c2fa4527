-- What these proofs call by a name of other modules.
pub use Rattle.std.proofs.Common.{Bool, Err, IfNone, List, None, Ok, Option, Result, Some, [], add-one, ap, append_assoc, arith, cond, drop, false, get_or, inl, inr, length, length-append, length-drop, map, nat_eq, refl, string_bytes, subst, suc, sym, take, true, zero, ℕ, ◌%◌, ◌*◌, ◌++◌, ◌+◌, ◌-◌, ◌/◌, ◌<◌, ◌^◌, ◌∙◌, ◌∷◌, ◌≡◌, ◌≤◌}
pub use Rattle.std.specs.Prelude.{IfSome, bit_or, codes, filter, find, is_some, nat_le, nat_lt, negsuc, not, pos, reverse, slice_get, slice_index, take_while, ℤ, ◌&&◌, ◌==◌, ◌||◌}
pub use Rattle.std.specs.List.{All, AllByRecursion, flat_map, list_all, list_any, position, position_or_len, prefix_len, starts_with}
pub use Rattle.std.specs.Int.{is_in_range, to_le_bytes, w32}
pub use Rattle.std.specs.Char.{digit_value, is_ascii_alphanumeric, is_ascii_digit, is_ascii_lowercase, is_digit}
pub use Rattle.std.specs.Fmt.{decimal, digit_glyph, signed_decimal}
pub use Rattle.std.proofs.lemmas.Bool.{agree_below_at, and_from, and_left, and_parts, and_right, cases_Bool, cases_eq, cases_lt, cond-false, cond-true, cond_both, eq-eqb, eqb-true, false_from_ne_true, false≢true, le-leb, le-ltb, leb-true, lt-leb, lt-ltb, ltb-true, ne_eqb, not-false, or_cases, or_from, or_left, or_parts}
pub use Rattle.program_tokens.specs.Grammar.{begins_number, goes_on, is_blank, is_name_byte, is_name_start, is_text_byte, with_token}
unfoldable pub use Rattle.program_tokens.specs.Grammar.{kind_of, line_tokens, token_of, tokens_after}
pub use Rattle.std.proofs.lemmas.List.{append-nil, length-map, length-take-le, map-append, map_more, reverse-append, take_all}
pub use Rattle.program_tokens.specs.declared.token.Token.{Token}
pub use Rattle.program_tokens.specs.declared.token.Number.TheVariants.{Large, Small}
pub use Rattle.canonical_text.specs.CanonicalText.{based, before_operand, byte_line, canonical_text, code_line, code_lines, comma_unless, commas, data_lines, forward_text, label_line, line, listed, no_pieces, op_text, operand_text, place_named, place_text, register_text, section, spelled, start_line, stop_text, task_line, word_line}
unfoldable pub use Rattle.canonical_text.specs.CanonicalText.{hexadecimal, marked_text, members}
pub use Rattle.program_statements.specs.Steps.{◌>>=◌}
pub use Rattle.program_statements.specs.Statements.{create_at, in_data, instruction_of, is_mark, mark_count, no_marks, of_mnemonic, statement_of, targets_at, unmarked, with_marks, with_registers}
unfoldable pub use Rattle.program_statements.specs.Statements.{byte_statement, bytes_of, numbers_of, places_of, registers_at, registers_of, release_of, targets_of, task_of, word_statement, words_of}
pub use Rattle.program_statements.specs.declared.fault.StatementFault.{StatementFault}
pub use Rattle.program_statements.specs.declared.statement.Section.{Section}
pub use Rattle.program_statements.specs.declared.statement.Statement.{Statement}
pub use Rattle.program_tokens.specs.Lines.{lines}
pub use Rattle.program_tokens.specs.declared.token.LineFault.{LineFault}
pub use Rattle.annotated_asm.specs.Items.{after_labels, blob, label_item, labels_of, on_line, section_after, statement_items, tokens_on_line}
unfoldable pub use Rattle.annotated_asm.specs.Items.{items_from, line_items}
pub use Rattle.annotated_asm.specs.declared.fault.AsmFault.{AsmFault}
pub use Rattle.annotated_asm.specs.declared.item.PlacedStatement.{PlacedStatement}
pub use Rattle.std.proofs.lemmas.List.Folds.{list_all-append}
pub use Rattle.mips_instructions.specs.InstructionTable.{mnemonic_named, mnemonic_of, mnemonics, name_of, operands, word_of}
pub use Rattle.mips_instructions.specs.declared.instruction.InstructionOperand.{InstructionOperand}
pub use Rattle.mips_instructions.specs.declared.instruction.InstructionOperand.TheVariants.{Amount, Offset, Place, Register, Registers, Signed, Unsigned}
pub use Rattle.task_descriptor.specs.Listing.{IsWellFormed, Listing, collide, has_destination, has_duplicate, is_bad_mark, numbers_below, registers, release_fits, stop_fits}
pub use Rattle.task_descriptor.specs.declared.descriptor.Descriptor.{Descriptor}
pub use Rattle.task_descriptor.specs.declared.descriptor.Marked.{Marked}
pub use Rattle.task_descriptor.specs.declared.descriptor.Stop.{Stop}
pub use Rattle.program_statements.specs.declared.statement.Instruction.{Instruction}
pub use Rattle.canonical_text.specs.Ranges.{IsHalf, IsInRange, IsOperandInRange, IsTaskInRange}
pub use Rattle.std.proofs.lemmas.Fmt.{decimal_digit, decimal_is_IsNumeral, decimal_step, first_decimal, length-decimal-le}
pub use Rattle.std.specs.Str.{byte, bytes_eq}
pub use Rattle.mips_instructions.specs.declared.instruction.Op.{Op}
pub use Rattle.mips_instructions.specs.declared.instruction.Op.TheVariants.{BranchOne, BranchTwo, Halt, Imm, Jump, JumpLink, JumpLinkReg, JumpReg, Load, Logic, Lui, MoveFrom, MoveTo, Mult, Out, Release, ShiftBy, ShiftVar, Store, Three}
pub use Rattle.annotated_asm.specs.Tables.{Names, lookup}
pub use Rattle.annotated_asm.specs.Layout.{counted, grown, if_new, instruction_count, is_beyond, laid, no_layout, with_item}
pub use Rattle.annotated_asm.specs.declared.layout.Layout.{Layout}
pub use Rattle.annotated_asm.specs.declared.table.Symbol.{Symbol}
pub use Rattle.std.proofs.lemmas.Slice.Eq.{bytes_eq-Decides}
pub use Rattle.std.proofs.lemmas.List.Elements.{All-cons, All-more, All-nil, All-same, filter-append, recursion_from_All}
pub use Rattle.mips_instructions.specs.Words.{has}
pub use Rattle.task_descriptor.specs.Names.{begins_name, continues_name, is_name}
pub use Rattle.canonical_text.specs.MarkedText.{Written, nothing_of, text_in, with_line}
unfoldable pub use Rattle.canonical_text.specs.MarkedText.{with_lines}
pub use Rattle.std.proofs.lemmas.List.Sums.{AllPass-from_list_all, prefix_len-le-length}
pub use Rattle.annotated_asm.specs.Resolve.{all_marked, code_label, descriptor, index_of_symbol, no_parts, parts, place_of, target_place, target_places, with_data}
pub use Rattle.program_statements.specs.declared.statement.Target.{Target}
pub use Rattle.program_tokens.specs.Numbers.{begins_with_digit, negative, positive}
unfoldable pub use Rattle.program_tokens.specs.Numbers.{magnitude_of, number_in, number_of}
pub use Rattle.program_tokens.specs.Registers.{has_leading_zero, register_numbered}
unfoldable pub use Rattle.program_tokens.specs.Registers.{register_of}
pub use Rattle.annotated_asm.proofs.Runs.{alike_behind, alike_same, alike_then, blob_joined, parts_append}
pub use Rattle.std.proofs.lemmas.Result.{err_from_is_err_and, on_ok_weaker}
pub use Rattle.program_statements.specs.declared.statement.Section.TheVariants.{Text}
