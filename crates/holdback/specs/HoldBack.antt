-- A layer that holds a row back: the ledger of the store below, and the row held.
use Rattle.std.specs.Prelude.{◌≡◌, Bool, true, cond, not, ◌&&◌, is_some, Some, None, Option}
use Rattle.ledger.specs.Keys.{KeyOps}
use Rattle.ledger.specs.Ledger.{Ledger, Kept, has_key, put_row, takes, with_rows, join_to}
use Rattle.ledger.specs.declared.row.Row as Row
use Rattle.ledger.specs.declared.store.RowStore as RowStore
use Rattle.holdback.specs.declared.layer.HoldBack.{HoldBack}

-- what a layer means by its two parts: the ledger of the store below, and the row held
pub record Layer (R : Type 0) : Type 0 where
  pub below : Ledger R
  pub held : Option R

-- the row, if there is one, is taken by this ledger
abbrev pub Fits : {K R : Type 0} → KeyOps K R → Option R → Ledger R → Type 0
Fits o None l = Unit {0}
Fits o (Some h) l = takes o h l ≡ true

-- the ledger with the row, if there is one, put into it
abbrev pub with_held : {K R : Type 0} → KeyOps K R → (R → R → R) → Option R → Ledger R → Ledger R
with_held o join None l = l
with_held o join (Some h) l = with_rows l (put_row o join h l.rows)

-- the ledger of a layer: the one below, with the held row counted
abbrev pub whole : {K R : Type 0} → KeyOps K R → (R → R → R) → Layer R → Ledger R
whole o join s = with_held o join s.held s.below

-- the layer after a put: a row of the held row's key is joined to it; one of another key, if it is taken, is held in its place, and the row held until then goes down
abbrev pub after_put : {K R : Type 0} → KeyOps K R → (R → R → R) → R → Layer R → Layer R
after_put o join r s =
    cond (has_key o (o.key_of r) s.held)
    (record { below = s.below; held = Some (join_to join s.held r) })
    (cond (takes o r (whole o join s)) (record { below = whole o join s; held = Some r }) s)

-- a put of this row sends the held row down: a row of another key is held, and this one is taken
abbrev pub goes_down : {K R : Type 0} → KeyOps K R → (R → R → R) → R → Layer R → Bool
goes_down o join r s = is_some s.held && (not (has_key o (o.key_of r) s.held) && takes o r (whole o join s))

-- the layer of a state, by what the store below means
abbrev pub layer_of : {S K R : Type 0} → RowStore.Ghosts S R K → HoldBack S R K → Layer R
layer_of store s = record { below = store.ledger s.below; held = s.held }

abbrev pub ledger_of : {S K R : Type 0} → Row.Ghosts R K → RowStore.Ghosts S R K → HoldBack S R K → Ledger R
ledger_of row store s = whole row.keys row.joined (layer_of store s)

-- the law of a store
abbrev pub StoreKept : {S K R : Type 0} → Row.Ghosts R K → RowStore.Ghosts S R K → S → Type 0
StoreKept row store s = Kept row.keys (store.ledger s) (store.kept s)

-- what a layer keeps of its own: the law of the store below, and that the held row still fits there
pub record Holding {S K R : Type 0} (row : Row.Ghosts R K) (store : RowStore.Ghosts S R K) (s : HoldBack S R K) : Type 0 where
  pub below : StoreKept row store s.below
  pub fits : Fits row.keys s.held (store.ledger s.below)

-- what a layer means as a store
abbrev pub layer_store : {S K R : Type 0} → Row.Ghosts R K → RowStore.Ghosts S R K → RowStore.Ghosts (HoldBack S R K) R K
layer_store row store = record { ledger = ledger_of row store; kept = Holding row store }

-- the law of a layer
abbrev pub LayerKept : {S K R : Type 0} → Row.Ghosts R K → RowStore.Ghosts S R K → HoldBack S R K → Type 0
LayerKept row store s = StoreKept row (layer_store row store) s
