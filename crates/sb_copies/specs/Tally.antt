-- How many messages stand how, as counts that are kept.
use Rattle.std.specs.Prelude.{◌≡◌, ℕ, ◌+◌, ◌-◌, List, find, Option, Some, None}
use Rattle.std.specs.Option.{option_map}
use Rattle.sb_machine.specs.Leases.{is_ready, is_scheduled}
use Rattle.sb_machine.specs.Leaves.{has_number, is_deferred}
use Rattle.sb_machine.specs.Looks.{count_of, is_held}
use Rattle.sb_machine.specs.declared.state.Standing.{Standing}
use Rattle.sb_machine.specs.declared.state.Standing.TheVariants.{Ready, Deferred, Held, Scheduled}
use Rattle.sb_machine.specs.declared.state.StoredCopy.{StoredCopy}
use Rattle.sb_copies.specs.declared.tally.Tally.{Tally}

-- the counts of these messages
abbrev pub tally_of : List StoredCopy → Tally
tally_of copies = record {
  ready = count_of is_ready copies;
  held = count_of is_held copies;
  deferred = count_of is_deferred copies;
  scheduled = count_of is_scheduled copies;
}

-- each count is how many of the messages stand so
abbrev pub Tallies : Tally → List StoredCopy → Type 0
Tallies tally copies = tally ≡ tally_of copies

-- how many are counted
abbrev pub total : Tally → ℕ
total tally = tally.ready + tally.held + tally.deferred + tally.scheduled

-- how the message of this number stands, if there is one
abbrev pub standing_at : ℕ → List StoredCopy → Option Standing
standing_at n copies = option_map (λ c. c.standing) (find (has_number n) copies)

-- ---- changes

-- with one more that stands so
abbrev pub with_one : Standing → Tally → Tally
with_one Ready tally = record tally { ready = tally.ready + 1 }
with_one Deferred tally = record tally { deferred = tally.deferred + 1 }
with_one (Held lock hold deferred) tally = record tally { held = tally.held + 1 }
with_one (Scheduled at) tally = record tally { scheduled = tally.scheduled + 1 }

-- with one less that stands so
abbrev pub without_one : Standing → Tally → Tally
without_one Ready tally = record tally { ready = tally.ready - 1 }
without_one Deferred tally = record tally { deferred = tally.deferred - 1 }
without_one (Held lock hold deferred) tally = record tally { held = tally.held - 1 }
without_one (Scheduled at) tally = record tally { scheduled = tally.scheduled - 1 }

-- once one that stood so is gone, if it was there
abbrev pub gone : Option Standing → Tally → Tally
gone None tally = tally
gone (Some was) tally = without_one was tally

-- once one that stood so stands otherwise, if it was there
abbrev pub moved : Option Standing → Standing → Tally → Tally
moved None now tally = tally
moved (Some was) now tally = with_one now (without_one was tally)
