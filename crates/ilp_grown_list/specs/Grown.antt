-- A list that only grows, and what its seats know of it.
use Rattle.std.specs.Prelude.{◌≡◌, ℕ, List, [], true, false}
use mathlib.Core.Option.{Option, none, some}
use mathlib.Core.List.{IsPrefix}
use lib.ListN.{get_elem?}
use Rattle.atomic_table.specs.Seated.{TableId}
use Rattle.ilp_grown_list.specs.declared.law.View.{View}

-- the name of no table
abbrev pub no_table : TableId
no_table = record { words = 0; slots = 0; views_name = 0; atom = 0; block = 0; offset = 0; slot_names = [] }

module _ {E : Type 0} where
  -- the seat that knows all of the list
  abbrev pub knower : List E → View E
  knower all = record { keeps = true; all = all; claim = [] }

  -- a seat that has seen a beginning
  abbrev pub seer : List E → View E
  seer beginning = record { keeps = false; all = []; claim = beginning }

  -- the keeper with another's beginning to compare
  abbrev pub shown : View E → View E → View E
  shown v w = record { keeps = v.keeps; all = v.all; claim = w.claim }

  -- One seat at most knows all of the list, and each has seen a beginning of it.
  abbrev pub AreOfOneList : List (View E) → Type 0
  AreOfOneList views =
      (seat : ℕ) × (list : List E)
      × ((by : ℕ) (v : View E) → get_elem? views by ≡ some v → (v.keeps ≡ true → (by ≡ seat) × (v.all ≡ list)) × IsPrefix v.claim list)

  abbrev pub grown_by : {S : Type 0} → (List E → S → List E) → Option S → List E → List E
  grown_by told (some x) list = told list x
  grown_by told none list = list

  -- the keeper's list is what was told
  abbrev pub Grew : {S : Type 0} → (List E → S → List E) → Option S → View E × List (ℕ × S) → View E × List (ℕ × S) → Type 0
  Grew told said v w = w ≡ (knower (grown_by told said v.0.all), v.1)

  -- what was compared is a beginning of the keeper's list
  abbrev pub Checked : {S : Type 0} → View E × List (ℕ × S) → View E × List (ℕ × S) → Type 0
  Checked v w = (w ≡ (knower v.0.all, v.1)) × IsPrefix v.0.claim v.0.all
