-- Answers of `put_fields` (src/plain.rt): what the prover left open; rt looks here.
use Rattle.live_session.proofs.UnquotedLineLaws.{last-put, next-put}
use Rattle.live_session.proofs.plain.put_fields.Goals as goal

pub fields-preserved : goal.fields-preserved
fields-preserved c = record {
  fields = next-put _ _ _ _ _ _ _ _ _ c.fields.invariant.fields c.fields.invariant.partial c.in-Some.ensures
      c.split_at.ensures.front c.split_at.ensures.back c.split_at-in-Some.ensures.back
      c.in_ok-push_field.ensures.fields;
  partial = c.in_ok-push_field.ensures.partial;
}

pub returns : goal.returns
returns c =
    last-put c.push_field-2.result _ _ _ _ _ c.fields.invariant.fields c.fields.invariant.partial c.in_default.ensures
    c.push_field-2.ensures.fields
