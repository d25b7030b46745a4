-- Rules that are there and that aren't.
use Rattle.std.proofs.Common.{◌≡◌, ℕ, true, List, Option, Some, None, Result, refl, sym, ◌∙◌, ap, subst}
use Rattle.sb_machine.specs.Administration.{are_rule_names, create_rule_row, delete_rule_row}
use Rattle.sb_machine.specs.Namespace.{entity_at, subscription_path}
use Rattle.sb_machine.specs.Rows.{Row, refuses, found_or, absent_or}
use Rattle.sb_machine.specs.declared.call.FilterText.{FilterText}
use Rattle.sb_machine.specs.declared.call.Path.{Path}
use Rattle.sb_machine.specs.declared.reply.Refusal.{Refusal}
use Rattle.sb_machine.specs.declared.rule.Rule.{Rule}
use Rattle.sb_machine.specs.declared.state.Entity.{Entity}
use Rattle.sb_machine.specs.declared.state.Listed.{Listed}
use Rattle.sb_machine.specs.declared.state.Space.{Space}
use Rattle.sb_engine.specs.Plans.{PlansRow}
use Rattle.sb_engine.specs.Rules.{rule_of, created_in, deleted_in}
use Rattle.sb_engine.specs.declared.plan.draft.Draft.{Draft}

-- a search in the same rules for the same name
pub same_search : (found : Option Rule) (rules seen : List Rule) (name asked : List ℕ) → seen ≡ rules → asked ≡ name → found ≡ rule_of asked seen → rule_of name rules ≡ found
same_search found rules seen name asked a b e = sym (e ∙ ap (λ n. rule_of n seen) b ∙ ap (λ (xs : List Rule). rule_of name xs) a)

pub not_found : (o : Option Rule) (r : Refusal) (next : Rule → Row) → o ≡ None → found_or o r next ≡ refuses r
not_found o r next e = rw e refl

pub is_there : (o : Option Rule) (x : Rule) (r : Refusal) (row : Row) → o ≡ Some x → absent_or o r row ≡ refuses r
is_there o x r row e = rw e refl

-- ---- the subscription that is there

there : (s : Space) (topic subscription : List ℕ) (path : Path) (e : Entity) → path ≡ subscription_path topic subscription → Some e ≡ entity_at path s → entity_at (subscription_path topic subscription) s ≡ Some e
there s topic subscription path e is found = sym (found ∙ ap (λ (p : Path). entity_at p s) is)

created : (s : Space) (topic subscription name : List ℕ) (asked : FilterText) (action : Option (List ℕ)) (e : Entity) → are_rule_names topic subscription name ≡ true → entity_at (subscription_path topic subscription) s ≡ Some e
    → create_rule_row s topic subscription name asked action ≡ created_in e.about name asked action
created s topic subscription name asked action e names found = rw (names, found) refl

deleted : (s : Space) (topic subscription name : List ℕ) (e : Entity) → are_rule_names topic subscription name ≡ true → entity_at (subscription_path topic subscription) s ≡ Some e
    → delete_rule_row s topic subscription name ≡ deleted_in e.about name
deleted s topic subscription name e names found = rw (names, found) refl

pub creates : (r : Result Draft Refusal) (s : Space) (topic subscription name : List ℕ) (asked : FilterText) (action : Option (List ℕ)) (path : Path) (e : Entity) (about : Listed)
    → are_rule_names topic subscription name ≡ true → path ≡ subscription_path topic subscription → Some e ≡ entity_at path s → about ≡ e.about
    → PlansRow r (created_in about name asked action) → PlansRow r (create_rule_row s topic subscription name asked action)
creates r s topic subscription name asked action path e about names is found same planned =
    subst (λ (row : Row). PlansRow r row)
    (ap (λ (x : Listed). created_in x name asked action) same ∙ sym (created s topic subscription name asked action e names (there s topic subscription path e is found))) planned

pub deletes : (r : Result Draft Refusal) (s : Space) (topic subscription name : List ℕ) (path : Path) (e : Entity) (about : Listed)
    → are_rule_names topic subscription name ≡ true → path ≡ subscription_path topic subscription → Some e ≡ entity_at path s → about ≡ e.about
    → PlansRow r (deleted_in about name) → PlansRow r (delete_rule_row s topic subscription name)
deletes r s topic subscription name path e about names is found same planned =
    subst (λ (row : Row). PlansRow r row)
    (ap (λ (x : Listed). deleted_in x name) same ∙ sym (deleted s topic subscription name e names (there s topic subscription path e is found))) planned
