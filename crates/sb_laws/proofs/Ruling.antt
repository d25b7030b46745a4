-- Rules stand in order of name, on subscriptions alone, through every change.
use Rattle.std.proofs.Common.{Bool, List, None, Option, Some, ap, false, not, subst, sym, true, ℕ, ◌+◌, ◌∙◌, ◌≡◌}
use Rattle.std.specs.Prelude.{bytes_eq}
use Rattle.sb_laws.proofs.Carried.{IsOfAct, act_closes, act_drops, act_ends, act_enters, act_frees, act_notes, act_passes, act_waits}
use Rattle.sb_laws.proofs.Eachs.{each_filter, each_inserted, pairs_filter}
use Rattle.sb_laws.proofs.Entities.{about_with_leaf, entities_keep}
use Rattle.sb_laws.proofs.Points.{StepKeeps}
use Rattle.sb_laws.proofs.Shapes.{Arrives}
use Rattle.sb_laws.proofs.Sorting.{before_later, before_other, none_same, sorted_placed}
use Rattle.sb_laws.specs.Plain.{IsRuled}
use Rattle.sb_machine.specs.Administration.{rule_in}
use Rattle.sb_machine.specs.Changes.{after, rule_added, rule_dropped, with_rules}
use Rattle.sb_machine.specs.Descriptions.{has_rules}
use Rattle.sb_machine.specs.Each.{Each}
use Rattle.sb_machine.specs.Leaves.{leaf_after}
use Rattle.sb_machine.specs.Names.{is_before, is_rule_name}
use Rattle.sb_machine.specs.Namespace.{leaf_of}
use Rattle.sb_machine.specs.declared.change.Change.{Change}
use Rattle.sb_machine.specs.declared.change.Change.TheVariants.{AddsRule, DropsRule, InLeaf, Makes, Notes, Removes}
use Rattle.sb_machine.specs.declared.change.LeafChange.{LeafChange}
use Rattle.sb_machine.specs.declared.change.LeafChange.TheVariants.{Closes, Ends, Enters, Holds, Opens, Passes, Prolongs, Renews, Stands, Writes}
use Rattle.sb_machine.specs.declared.change.LeafKey.{LeafKey}
use Rattle.sb_machine.specs.declared.rule.Rule.{Rule}
use Rattle.sb_machine.specs.declared.state.Entity.{Entity}
use Rattle.sb_machine.specs.declared.state.Space.{Space}
use Rattle.sb_machine.specs.declared.state.Standing.TheVariants.{Ready, Scheduled}

abbrev pub AreRuled : Space → Type 0
AreRuled s = Each (λ e. IsRuled e.about) s.entities

leaf_ruled : (t : ℕ) (key : LeafKey) (c : LeafChange) (s : Space) → AreRuled s → AreRuled (after t (InLeaf key c) s)
leaf_ruled t key c s h = entities_keep (λ e. IsRuled e.about) t (InLeaf key c) s (λ e there ruled. subst IsRuled (sym (about_with_leaf key.part (leaf_after (s.last_lock + 1) t c (leaf_of key.part e)) e)) ruled) h

act_ruled : (t : ℕ) (c : Change) (now : Space) → IsOfAct Arrives t c → AreRuled now → AreRuled (after t c now)
act_ruled t _ now (act_enters key seq hops m few p) h = leaf_ruled t key (Enters (record { seq = seq; hops = hops; standing = Ready; message = m })) now h
act_ruled t _ now (act_waits key moment m later p) h = leaf_ruled t key (Enters (record { seq = None; hops = 0; standing = Scheduled moment; message = m })) now h
act_ruled t _ now (act_passes key cause) h = leaf_ruled t key (Passes cause) now h
act_ruled t _ now (act_ends key n by_settlement cause) h = leaf_ruled t key (Ends n by_settlement cause) now h
act_ruled t _ now (act_frees key n by_settlement count standing free few) h = leaf_ruled t key (Stands n by_settlement count standing) now h
act_ruled t _ now (act_closes key l) h = leaf_ruled t key (Closes l) now h
act_ruled t _ now (act_notes n id) h = entities_keep (λ e. IsRuled e.about) t (Notes n id) now (λ e there ruled. ruled) h
act_ruled t _ now (act_drops n) h = h

pub rule_added_fits : (rule : Rule) (e : Entity) → rule_in rule.name e ≡ None → is_rule_name rule.name ≡ true → has_rules e.about.kind ≡ true → IsRuled e.about → IsRuled (with_rules (rule_added rule) e).about
rule_added_fits rule e fresh named has h = record {
  order = sorted_placed (λ a b. is_before a.name b.name) (λ a b. bytes_eq a.name b.name) rule (λ y z p q. before_later rule.name y.name z.name p q) (λ y p q. before_other y.name rule.name p q) e.about.rules (none_same (λ r. bytes_eq r.name rule.name) e.about.rules fresh) h.order;
  names = each_inserted (λ r. is_rule_name r.name ≡ true) (λ x. is_before x.name rule.name) rule e.about.rules named h.names;
  none = λ bare. absurd (clash (has_rules e.about.kind) has bare);
} where
  clash : (b : Bool) → b ≡ true → b ≡ false → ⊥
  clash b on off = cc

pub rule_dropped_fits : (name : List ℕ) (e : Entity) → IsRuled e.about → IsRuled (with_rules (rule_dropped name) e).about
rule_dropped_fits name e h = record {
  order = pairs_filter (λ a b. is_before a.name b.name ≡ true) (λ x. not (bytes_eq x.name name)) e.about.rules h.order;
  names = each_filter (λ r. is_rule_name r.name ≡ true) (λ x. not (bytes_eq x.name name)) e.about.rules h.names;
  none = λ bare. ap (rule_dropped name) (h.none bare);
}

pub ruled_steps : (t : ℕ) (s : Space) → StepKeeps AreRuled t s
ruled_steps t s = record {
  acts = act_ruled t;
  makes = λ kind path d rules plain ruled new h. entities_keep (λ e. IsRuled e.about) t (Makes kind path d rules) s ruled h;
  adds = λ n rule e on fresh named has h. entities_keep (λ e. IsRuled e.about) t (AddsRule n rule) s
      (λ x there ruled. let same : e ≡ x = some_is e x (sym on ∙ there) in subst (λ (y : Entity). IsRuled (with_rules (rule_added rule) y).about) same (rule_added_fits rule e fresh named has (subst (λ (y : Entity). IsRuled y.about) (sym same) ruled))) h;
  rule_drop = λ n name h. entities_keep (λ e. IsRuled e.about) t (DropsRule n name) s (λ x there ruled. rule_dropped_fits name x ruled) h;
  removes = λ n now h. entities_keep (λ e. IsRuled e.about) t (Removes n) now tt h;
  holds = λ key n hold h. leaf_ruled t key (Holds n hold) s h;
  renews = λ key n until h. leaf_ruled t key (Renews n until) s h;
  opens = λ key id until few h. leaf_ruled t key (Opens id until) s h;
  prolongs = λ key l until few h. leaf_ruled t key (Prolongs l until) s h;
  writes = λ key l bytes few h. leaf_ruled t key (Writes l bytes) s h;
  begins = λ n e there few h. h;
  queues = λ x o there few fits h. h;
} where
  some_is : (y x : Entity) → ◌≡◌ {A = Option Entity} (Some y) (Some x) → y ≡ x
  some_is y x same = cc
