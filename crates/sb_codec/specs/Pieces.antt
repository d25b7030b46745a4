-- The pieces that stand in many acts, each as its form.
use Rattle.std.specs.Prelude.{ℕ, [], ◌∷◌, Bool, true, false}
use Rattle.sb_machine.specs.declared.call.By.{By}
use Rattle.sb_machine.specs.declared.call.Description.{Description}
use Rattle.sb_machine.specs.declared.call.Mode.{Mode}
use Rattle.sb_machine.specs.declared.call.Mode.TheVariants.{Lock, Delete}
use Rattle.sb_machine.specs.declared.call.Part.{Part}
use Rattle.sb_machine.specs.declared.call.Part.TheVariants.{Main, Dead, Transfer}
use Rattle.sb_machine.specs.declared.call.Path.{Path}
use Rattle.sb_machine.specs.declared.call.Token.{Token}
use Rattle.sb_codec.specs.Forms.{Form, number32, number64, text, ◌then◌, shaped, optional, coded}

-- false and true, as one byte
abbrev pub truth_code : Bool → ℕ
truth_code false = 0
truth_code true = 1

-- the form of true and false
abbrev pub truth : Form Bool
truth = coded truth_code (false ∷ true ∷ [])

-- the parts of an entity, as one byte
abbrev pub part_code : Part → ℕ
part_code Main = 0
part_code Dead = 1
part_code Transfer = 2

-- the form of parts
abbrev pub part : Form Part
part = coded part_code (Main ∷ Dead ∷ Transfer ∷ [])

-- the modes of receiving, as one byte
abbrev pub mode_code : Mode → ℕ
mode_code Lock = 0
mode_code Delete = 1

-- the form of modes
abbrev pub mode : Form Mode
mode = coded mode_code (Lock ∷ Delete ∷ [])

-- an address: the entity's name, the subscription's if there is one, and the part
unfoldable pub path : Form Path
path = shaped (λ x. record { name = x.0; subscription = x.1.0; part = x.1.1 }) (λ p. (p.name, (p.subscription, p.part))) (text then optional text then part)

-- a lock token: the namespace's salt and the lock's number
unfoldable pub token : Form Token
token = shaped (λ x. record { salt = x.0; lock = x.1 }) (λ t. (t.salt, t.lock)) (number64 then number64)

-- a client's name and its call's number
unfoldable pub by : Form By
by = shaped (λ x. record { client = x.0; number = x.1 }) (λ b. (b.client, b.number)) (text then number64)

-- the description of an entity, field by field
unfoldable pub description : Form Description
description =
    shaped (λ x. record {
      lock = x.0;
      ttl = x.1.0;
      max_delivery = x.1.1.0;
      window = x.1.1.1.0;
      requires_session = x.1.1.1.1.0;
      dead_on_expiry = x.1.1.1.1.1.0;
      dead_on_fault = x.1.1.1.1.1.1.0;
      forward_to = x.1.1.1.1.1.1.1.0;
      forward_dead_to = x.1.1.1.1.1.1.1.1;
    })
    (λ d. (d.lock, (d.ttl, (d.max_delivery, (d.window, (d.requires_session, (d.dead_on_expiry, (d.dead_on_fault, (d.forward_to, d.forward_dead_to)))))))))
    (number32 then optional number64 then number32 then optional number32 then truth then truth then truth then optional text then optional text)
