-- Entities, their rules and their ids are forms that are exact.
use Rattle.std.proofs.Common.{refl}
use Rattle.sb_machine.specs.declared.rule.RuleFilter.{RuleFilter}
use Rattle.sb_machine.specs.declared.rule.RuleFilter.TheVariants.{Sql, Correlation}
use Rattle.sb_machine.specs.declared.state.EntityKind.TheVariants.{Queue, Topic, Subscription}
use Rattle.sb_codec.proofs.Forms.{IsForm, number64_is, text_is, tested_is, ◌then_is◌, shaped_is, optional_is, coded_is, Chooses, no_row_chooses, row_chooses, IsCase, is_case, variants_is}
use Rattle.sb_codec.proofs.ExactMessages.{conditions_is}
use Rattle.sb_codec.proofs.ExactPieces.{path_is, description_is}
use Rattle.sb_snapshot.specs.Entities.{kind_code, kind, filter_words, action_words, sql, correlation, filter_case, filter_choice, filter, rule, is_next_rule, accepted, is_next_id, about, head}
use Rattle.sb_snapshot.proofs.Lists.{listed64_is}

pub kind_is : IsForm kind
kind_is = coded_is kind_code _ (elim [ Queue ↦ refl | Topic ↦ refl | Subscription ↦ refl ])

filter_words_is : IsForm filter_words
filter_words_is = tested_is _ text_is

action_words_is : IsForm action_words
action_words_is = tested_is _ text_is

filter_chooses : Chooses filter_case filter_choice
filter_chooses =
    row_chooses filter_case sql _ filter_words_is (λ _. refl) (λ _ f. f)
    (row_chooses filter_case correlation _ conditions_is (λ _. refl) (λ _ f. f)
    (no_row_chooses filter_case))

filter_each : (v : RuleFilter) → IsCase filter_choice (filter_case v) v
filter_each (Sql t) = is_case filter_choice sql filter_words_is (λ _. refl) t
filter_each (Correlation c) = is_case filter_choice correlation conditions_is (λ _. refl) c

pub filter_is : IsForm filter
unfolding filter
filter_is = variants_is filter_case filter_choice filter_chooses filter_each

pub rule_is : IsForm rule
unfolding rule
rule_is = shaped_is _ _ (λ _. refl) (λ _. refl) (text_is then_is filter_is then_is optional_is action_words_is)

pub accepted_is : IsForm accepted
unfolding accepted
accepted_is = shaped_is _ _ (λ _. refl) (λ _. refl) (number64_is then_is text_is)

pub about_is : IsForm about
unfolding about
about_is = shaped_is _ _ (λ _. refl) (λ _. refl) (number64_is then_is kind_is then_is path_is then_is description_is then_is listed64_is is_next_rule rule_is)

pub head_is : IsForm head
unfolding head
head_is = shaped_is _ _ (λ _. refl) (λ _. refl) (about_is then_is listed64_is is_next_id accepted_is)
