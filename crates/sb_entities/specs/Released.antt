-- Slots that are promised and given back.
use Rattle.std.specs.Prelude.{◌-◌, List, Option, Some, None}
use Rattle.std.specs.List.{fold}
use Rattle.sb_machine.specs.declared.change.Change.{Change}
use Rattle.sb_txn.specs.Txns.{with_less_room}
use Rattle.sb_entities.specs.Places.{place_of}
use Rattle.sb_entities.specs.Rooms.{PartRoom, Room, part_room, with_part_room}
use Rattle.sb_entities.specs.Stocks.{Entry, Stock, on_entry, on_txn, stock_grown_at}
use Rattle.sb_entities.specs.declared.place.EntityPlace.{EntityPlace}
use Rattle.sb_entities.specs.declared.place.EntityPlace.TheVariants.{OfPart, Ids, Rules}
use Rattle.sb_entities.specs.declared.place.PartPlace.{PartPlace}
use Rattle.sb_entities.specs.declared.place.PartPlace.TheVariants.{Copies, Sessions, Locks}
use Rattle.sb_entities.specs.declared.place.Place.{Place}
use Rattle.sb_entities.specs.declared.place.Place.TheVariants.{Entities, Transactions, InEntity, InTransaction}

-- one slot less is promised in a list of a part, where there is one
abbrev pub part_shrunk : PartPlace → PartRoom → PartRoom
part_shrunk Copies r = record r { copies = r.copies - 1 }
part_shrunk Sessions r = record r { sessions = r.sessions - 1 }
part_shrunk Locks r = record r { locks = r.locks - 1 }

-- in a list of an entity
abbrev pub shrunk : EntityPlace → Room → Room
shrunk (OfPart part x) r = with_part_room part (part_shrunk x (part_room part r)) r
shrunk Ids r = record r { ids = r.ids - 1 }
shrunk Rules r = record r { rules = r.rules - 1 }

-- an entity with one slot less
abbrev pub entry_shrunk : EntityPlace → Entry → Entry
entry_shrunk p x = record x { room = shrunk p x.room }

-- one slot less is promised at a place of a namespace
abbrev pub stock_shrunk : Place → Stock → Stock
stock_shrunk Entities k = record k { spare = k.spare - 1 }
stock_shrunk Transactions k = record k { txns = record k.txns { spare = k.txns.spare - 1 } }
stock_shrunk (InEntity n p) k = record k { entries = on_entry n (entry_shrunk p) k.entries }
stock_shrunk (InTransaction n) k = record k { txns = record k.txns { rows = on_txn n with_less_room k.txns.rows } }

-- where a change needs a slot, one less is promised
abbrev pub stock_shrunk_at : Option Place → Stock → Stock
stock_shrunk_at None k = k
stock_shrunk_at (Some p) k = stock_shrunk p k

-- one more is promised for each of these changes that needs one
abbrev pub stock_grown_by : List Change → Stock → Stock
stock_grown_by cs k = fold (λ s c. stock_grown_at (place_of c) s) k cs
