-- The order of open transactions.
use Rattle.std.specs.Prelude.{◌≡◌, ℕ, ◌&&◌, nat_le, nat_lt, Bool, true, List, [], ◌∷◌}
use Rattle.sb_txn.specs.Txns.{Opened}

-- the number of an open transaction
abbrev pub txn_number : Opened → ℕ
txn_number r = r.transaction.number

-- rising numbers, above the one and up to the other
abbrev pub are_rising : ℕ → ℕ → List Opened → Bool
are_rising above last [] = nat_le above last
are_rising above last (r ∷ rows) = nat_lt above (txn_number r) && are_rising (txn_number r) last rows

-- they stand in rising number, up to the last that was given
abbrev pub AreOpened : ℕ → List Opened → Type 0
AreOpened last rows = are_rising 0 last rows ≡ true
