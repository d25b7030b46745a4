use Rattle.std.proofs.Common.{◌∙◌, refl, rules}
use Rattle.sb_sqltokens.proofs.Quoting.{nothing_left, text_ends, text_goes_on}
use Rattle.sb_sqltokens.proofs.quotes.quoted.Goals as goal

pub returns-in_default : goal.returns-in_default
returns-in_default c = nothing_left c.args.quote _ c.quotes.rest.now c.args.text.now c.in_default.ensures.none c.quotes.invariant.so_far

pub returns-in_default-doubled : goal.returns-in_default-doubled
returns-in_default-doubled c = text_ends c.args.quote _ c.quotes.rest.now c.in-Some.before.now c.in-Some.after.now c.args.text.now _ c.in-Some.ensures.some c.in-Some.ensures.before c.in_default-doubled.ensures.none (c.from_string.ensures ∙ c.in_ok-push_str.ensures.bytes) c.quotes.invariant.so_far

pub quotes-preserved : goal.quotes-preserved
quotes-preserved c = record {
  is_text = search rules;
  so_far = text_goes_on c.args.quote _ c.quotes.rest.now c.in-Some.before.now c.in-Some.after.now c.in-Some-doubled.onward.now c.args.text.now _ c.in-Some.ensures.some c.in-Some.ensures.before c.in-Some-doubled.ensures.some c.in-Some-doubled.ensures.again (rw (c.in_ok-push.ensures.bytes, c.in_ok-push.ensures.ascii c.requires, c.in_ok-push_str.ensures.bytes) refl) c.quotes.invariant.so_far;
}
