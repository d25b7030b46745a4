-- One forward more.
use Rattle.std.proofs.Common.{◌≡◌, ℕ, zero, suc, ◌+◌, ◌-◌, ◌<◌, List, Option, Some, None, refl, arith, Bor, ap, sym, ◌∙◌}
use Rattle.std.specs.Option.{option_map}
use Rattle.sb_model.specs.declared.message.Message.{Message}
use Rattle.sb_machine.specs.declared.state.Listed.{Listed}
use Rattle.sb_machine.specs.Visits.{destination, transferred, entered_by, failed}
use Rattle.sb_machine.specs.declared.reason.DeadReason.TheVariants.{NoDestination}

pub onward_to : (es : List Listed) (hops : ℕ) (e : Listed) (m : Message) (to : List ℕ) (d : Listed) → hops < 4 → destination es to ≡ Some d → transferred (4 - hops) es e m to ≡ entered_by (transferred (4 - (hops + 1)) es) (hops + 1) es d m
onward_to es zero e m to d most there = rw (there, transferred) refl
onward_to es (suc zero) e m to d most there = rw (there, transferred) refl
onward_to es (suc (suc zero)) e m to d most there = rw (there, transferred) refl
onward_to es (suc (suc (suc zero))) e m to d most there = rw (there, transferred) refl
onward_to es (suc (suc (suc (suc n)))) e m to d most there = absurd (omega arith)

pub found_at : (es : List Listed) (to : List ℕ) (r : Option (Bor Listed)) (d : Bor Listed) → option_map (λ b. b.now) r ≡ destination es to → r ≡ Some d → destination es to ≡ Some d.now
found_at es to r d found is = sym found ∙ ap (option_map (λ (b : Bor Listed). b.now)) is

pub nowhere_to : (es : List Listed) (hops : ℕ) (e : Listed) (m : Message) (to : List ℕ) → hops < 4 → destination es to ≡ None → transferred (4 - hops) es e m to ≡ failed hops e NoDestination m
nowhere_to es zero e m to most none = rw (none, transferred) refl
nowhere_to es (suc zero) e m to most none = rw (none, transferred) refl
nowhere_to es (suc (suc zero)) e m to most none = rw (none, transferred) refl
nowhere_to es (suc (suc (suc zero))) e m to most none = rw (none, transferred) refl
nowhere_to es (suc (suc (suc (suc n)))) e m to most none = absurd (omega arith)

pub missed_at : (es : List Listed) (to : List ℕ) (r : Option (Bor Listed)) → option_map (λ b. b.now) r ≡ destination es to → r ≡ None → destination es to ≡ None
missed_at es to r found is = sym found ∙ ap (option_map (λ (b : Bor Listed). b.now)) is
