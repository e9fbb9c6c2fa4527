-- A script that was not looked for may hold anything.
use Rattle.std.proofs.Common.{rules}
use Rattle.std.specs.String.{string_bytes}
use Rattle.program_edge.specs.FileTexts.{most_file}
use Rattle.program_edge.proofs.FoundLemmas.{some_found}
use Rattle.program_edge.proofs.texts.read_texts.Goals as goal

pub returns-in_err-read_certificate-clause-texts : goal.returns-in_err-read_certificate-clause-texts
returns-in_err-read_certificate-clause-texts g c =
    let script = some_found (g.F.NamedFiles.known c.args.files.now (string_bytes c.args.paths.script)) most_file in
    record {
      program = c.read_named.ensures.0;
      certificate = c.read_certificate.ensures.0;
      script = script.0;
      found_program = rw (← c.as_str.ensures.value) c.read_named.ensures.1;
      found_certificate = c.read_certificate.ensures.1;
      found_script = script.1;
      gives = search rules;
    }

pub returns-in-Err-clause-texts : goal.returns-in-Err-clause-texts
returns-in-Err-clause-texts g c =
    let certificate = some_found (g.F.NamedFiles.known c.args.files.now (string_bytes c.args.paths.certificate)) most_file in
    let script = some_found (g.F.NamedFiles.known c.args.files.now (string_bytes c.args.paths.script)) most_file in
    record {
      program = c.read_named.ensures.0;
      certificate = certificate.0;
      script = script.0;
      found_program = rw (← c.as_str.ensures.value) c.read_named.ensures.1;
      found_certificate = certificate.1;
      found_script = script.1;
      gives = search rules;
    }

pub returns-in_err-read_other-clause-texts : goal.returns-in_err-read_other-clause-texts
returns-in_err-read_other-clause-texts g c = record {
  program = c.read_named.ensures.0;
  certificate = c.read_certificate.ensures.0;
  script = c.read_other.ensures.0;
  found_program = rw (← c.as_str.ensures.value) c.read_named.ensures.1;
  found_certificate = c.read_certificate.ensures.1;
  found_script = c.read_other.ensures.1;
  gives = search rules;
}
