-- Journals of one event and of two, and with a base, worked out by hand, and what they are where a file is cut or a byte is another.
use Rattle.std.specs.Prelude.{ℕ, ◌+◌, List, [], ◌∷◌, ◌++◌, codes, replicate, take, drop}
use Rattle.sb_codec.specs.Worked.{made_bytes, ticked_bytes}
use Rattle.sb_machine.specs.Namespace.{new_entity, default_description, entity_path, empty_state}
use Rattle.sb_machine.specs.declared.state.EntityKind.TheVariants.{Queue}
use Rattle.sb_machine.specs.declared.state.State.{State}

-- a1b2c3d4e5f60718
abbrev pub worked_salt : ℕ
worked_salt = 11651590505119483672

-- the 87 bytes of a journal of this salt in which the queue q was created at 0
abbrev pub worked_file : List ℕ
worked_file =
    1 ∷ 0x53 ∷ 0x42 ∷ 0x4e ∷ 0x53 ∷ 0x4a ∷ 0x52 ∷ 0x4e ∷ 0x4c ∷ 1
    ∷ 0xa1 ∷ 0xb2 ∷ 0xc3 ∷ 0xd4 ∷ 0xe5 ∷ 0xf6 ∷ 0x07 ∷ 0x18
    ∷ 0 ∷ 0 ∷ 0 ∷ 0 ∷ 0 ∷ 0 ∷ 0 ∷ 1
    ∷ 0 ∷ 0 ∷ 0 ∷ 0 ∷ 0 ∷ 0 ∷ 0 ∷ 1
    ∷ 0 ∷ 0 ∷ 0 ∷ 0 ∷ 0 ∷ 0 ∷ 0 ∷ 0
    ∷ 1 ∷ 0 ∷ 0 ∷ 0 ∷ 0x1f ∷ 0 ∷ 0 ∷ 0 ∷ 0 ∷ 0 ∷ 0 ∷ 0 ∷ 1
    ∷ (made_bytes ++ 0 ∷ [])

-- the same journal with a tick at 9 behind
abbrev pub ticked_file : List ℕ
ticked_file = take 86 worked_file ++ 1 ∷ 0 ∷ 0 ∷ 0 ∷ 9 ∷ 0 ∷ 0 ∷ 0 ∷ 0 ∷ 0 ∷ 0 ∷ 0 ∷ 2 ∷ (ticked_bytes ++ 0 ∷ [])

-- these bytes with another one at a place
abbrev pub with_byte : ℕ → ℕ → List ℕ
with_byte place byte = take place worked_file ++ byte ∷ drop (place + 1) worked_file

-- a journal of this salt whose events are numbered from 6, with a base of so many bytes and what stands behind it
abbrev pub based_file : ℕ → List ℕ → List ℕ → List ℕ
based_file size base rest = take 33 worked_file ++ 6 ∷ 0 ∷ 0 ∷ 0 ∷ 0 ∷ 0 ∷ 0 ∷ 0 ∷ size ∷ (base ++ rest)

-- the base of an empty namespace: ten numbers of 8 bytes, the moment first and the number of clients last
abbrev pub empty_base : List ℕ
empty_base = replicate 80 0

-- the same base with another byte at a place
abbrev pub base_byte : ℕ → ℕ → List ℕ
base_byte place byte = take place empty_base ++ byte ∷ drop (place + 1) empty_base

-- event 6, in which the queue q was created at 0
abbrev pub made_record : List ℕ
made_record = 1 ∷ 0 ∷ 0 ∷ 0 ∷ 0x1f ∷ 0 ∷ 0 ∷ 0 ∷ 0 ∷ 0 ∷ 0 ∷ 0 ∷ 6 ∷ (made_bytes ++ 0 ∷ [])

-- a namespace with one queue
abbrev pub with_queue : State
with_queue = record (empty_state worked_salt) {
  space = record (empty_state worked_salt).space {
    last_entity = 1;
    entities = new_entity (record { number = 1; kind = Queue; path = entity_path (codes "q"); description = default_description; rules = [] }) ∷ [];
  };
}
