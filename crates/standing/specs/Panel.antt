-- What a panel keeps: its case, what it shows, and the open watch.
use Rattle.std.specs.Prelude.{ℕ, ◌+◌, Bool, List, [], ◌∷◌, ℤ, ◌<ℤ◌, Some, None, Option, nat_le}
use Rattle.std.specs.Option.{option_map}
use Rattle.standing.specs.Model.{Model}

-- the four headings under which offers and changes are counted
pub data Heading : Type 0 where
  HELD : Heading
  PASSED : Heading
  DECLINED : Heading
  CHANGES : Heading

pub record Counts : Type 0 where
  pub held : ℕ
  pub passed : ℕ
  pub declined : ℕ
  pub changes : ℕ

abbrev pub none_yet : Counts
none_yet = record { held = 0; passed = 0; declined = 0; changes = 0 }

abbrev pub total : Counts → ℕ
total n = n.held + n.passed + n.declined + n.changes

-- the counts with one more under the heading
abbrev pub raised : Heading → Counts → Counts
raised HELD n = record { held = n.held + 1; passed = n.passed; declined = n.declined; changes = n.changes }
raised PASSED n = record { held = n.held; passed = n.passed + 1; declined = n.declined; changes = n.changes }
raised DECLINED n = record { held = n.held; passed = n.passed; declined = n.declined + 1; changes = n.changes }
raised CHANGES n = record { held = n.held; passed = n.passed; declined = n.declined; changes = n.changes + 1 }

pub record Watch : Type 0 where
  pub attendant : ℕ
  pub counts : Counts

-- a watch with so many offers and changes is full, and takes no more
abbrev pub is_full : ℕ → Bool
is_full n = nat_le 1000000 n

-- what is written of a watch at its end
pub record Sheet : Type 0 where
  pub attendant : ℕ
  pub counts : Counts
  pub cost : Option ℤ
  pub floor : Option ℤ

-- a dispatch with its counted cost
pub record Priced (m : Model) : Type 0 where
  pub dispatch : m.Dispatch
  pub cost : ℤ

-- the orders in which dispatches and floors compete
abbrev pub Cheaper : {m : Model} → Priced m → Priced m → Type 0
Cheaper d e = d.cost <ℤ e.cost

abbrev pub Higher : ℤ → ℤ → Type 0
Higher f g = g <ℤ f

-- without a watch the panel is idle
pub record State (m : Model) : Type 0 where
  pub case : m.Case
  pub shown : Option (Priced m)
  pub floor : Option ℤ
  pub watch : Option Watch

module _ {m : Model} where
  -- the dispatch at the cost that is counted for it in the case
  abbrev pub priced : m.Case → m.Dispatch → Priced m
  priced c d = record { dispatch = d; cost = m.counted c d }

  abbrev pub cost_of : Option (Priced m) → Option ℤ
  cost_of o = option_map (λ (d : Priced m). d.cost) o

  -- a new panel is idle and shows nothing
  abbrev pub new_panel : m.Case → State m
  new_panel c = record { case = c; shown = None; floor = None; watch = None }

  -- the panel with another dispatch shown, another floor, another case or another watch
  abbrev pub showing : Priced m → State m → State m
  showing d s = record { case = s.case; shown = Some d; floor = s.floor; watch = s.watch }

  abbrev pub with_floor : ℤ → State m → State m
  with_floor f s = record { case = s.case; shown = s.shown; floor = Some f; watch = s.watch }

  -- with another case nothing is shown any more
  abbrev pub with_case : m.Case → State m → State m
  with_case c s = record { case = c; shown = None; floor = None; watch = s.watch }

  abbrev pub with_watch : Option Watch → State m → State m
  with_watch w s = record { case = s.case; shown = s.shown; floor = s.floor; watch = w }

  -- a watch is opened with its four counts at 0
  abbrev pub watched_by : ℕ → State m → State m
  watched_by a s = with_watch (Some (record { attendant = a; counts = none_yet })) s

  -- one more under the heading in the watch
  abbrev pub counting : Heading → Watch → State m → State m
  counting k w s = with_watch (Some (record { attendant = w.attendant; counts = raised k w.counts })) s

  -- the sheet of the watch
  abbrev pub sheet_of : Watch → State m → Sheet
  sheet_of w s = record { attendant = w.attendant; counts = w.counts; cost = cost_of s.shown; floor = s.floor }

  -- the sheet of the open watch; none of an idle panel
  abbrev pub open_sheet : Option Watch → State m → List Sheet
  open_sheet None s = []
  open_sheet (Some w) s = sheet_of w s ∷ []
