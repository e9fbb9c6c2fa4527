-- Each pattern is the text that its bytes spell.
use Rattle.std.proofs.Common.{rules, ◌≡◌, refl, arith}
use Rattle.std.specs.Prelude.{codes}
use Rattle.std.proofs.lemmas.Slice.Eq.{text_from_reads}
use Rattle.program_tokens.proofs.word.directive_of.Goals as goal

pub returns-in-start : goal.returns-in-start
returns-in-start c =
    let is : c.args.word.now ≡ codes "start" = text_from_reads _ _ (omega arith) (search rules) in
    rw is refl

pub returns-in-task : goal.returns-in-task
returns-in-task c =
    let is : c.args.word.now ≡ codes "task" = text_from_reads _ _ (omega arith) (search rules) in
    rw is refl

pub returns-in-data : goal.returns-in-data
returns-in-data c =
    let is : c.args.word.now ≡ codes "data" = text_from_reads _ _ (omega arith) (search rules) in
    rw is refl

pub returns-in-rodata : goal.returns-in-rodata
returns-in-rodata c =
    let is : c.args.word.now ≡ codes "rodata" = text_from_reads _ _ (omega arith) (search rules) in
    rw is refl

pub returns-in-word : goal.returns-in-word
returns-in-word c =
    let is : c.args.word.now ≡ codes "word" = text_from_reads _ _ (omega arith) (search rules) in
    rw is refl

pub returns-in-byte : goal.returns-in-byte
returns-in-byte c =
    let is : c.args.word.now ≡ codes "byte" = text_from_reads _ _ (omega arith) (search rules) in
    rw is refl

pub returns-in-space : goal.returns-in-space
returns-in-space c =
    let is : c.args.word.now ≡ codes "space" = text_from_reads _ _ (omega arith) (search rules) in
    rw is refl

pub returns-in-116 : goal.returns-in-116
returns-in-116 c =
    let is : c.args.word.now ≡ codes "text" = text_from_reads _ _ (omega arith) (search rules) in
    rw is refl
