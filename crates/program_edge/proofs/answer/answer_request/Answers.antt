-- What was read is what `read_texts` answers.
use Rattle.std.proofs.Common.{refl}
use Rattle.std.specs.Result.{result_map_both}
use Rattle.program_edge.proofs.answer.answer_request.Goals as goal

pub returns-in-Some : goal.returns-in-Some
returns-in-Some g c = record {
  read = result_map_both (λ read. read.texts) (λ unread. unread) c.read_texts.result;
  texts = c.read_texts.ensures.texts;
  ends = rw (c.in-Ok.is, c.in-Some.is) (rw (← c.in-Ok.ensures.name) c.fix.ensures);
}

pub returns-in-None : goal.returns-in-None
returns-in-None g c = record {
  read = result_map_both (λ read. read.texts) (λ unread. unread) c.read_texts.result;
  texts = c.read_texts.ensures.texts;
  ends = rw (c.in-Ok.is, c.in-None.is, c.if-releases.true) (rw (← c.in-Ok.ensures.name) c.release.ensures);
}

pub returns-in-Ok : goal.returns-in-Ok
returns-in-Ok g c = record {
  read = result_map_both (λ read. read.texts) (λ unread. unread) c.read_texts.result;
  texts = c.read_texts.ensures.texts;
  ends = rw (c.in-Ok.is, c.in-None.is, c.if-releases.false) (rw (← c.in-Ok.ensures.name) c.deliver.ensures);
}

pub returns : goal.returns
returns g c = record {
  read = result_map_both (λ read. read.texts) (λ unread. unread) c.read_texts.result;
  texts = c.read_texts.ensures.texts;
  ends = rw (c.in-Err.is, ← c.fault_of_file.ensures) (c.tell.ensures, λ _. refl);
}
