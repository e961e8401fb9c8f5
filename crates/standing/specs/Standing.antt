-- What stands on a panel, told by the calls made alone.
use Rattle.std.specs.Prelude.{◌≡◌, ◌+◌, true, List, [], ◌∷◌, ℤ, ◌≤ℤ◌, is_some, Some, None, Option}
use Rattle.measure.specs.Fraction.{whole, ◌≤ᶠ◌}
use Rattle.standing.specs.Model.{Model, Meets}
use Rattle.standing.specs.Call.{Call, History}
use Rattle.standing.specs.Panel.{Counts, Watch, Sheet, Priced, State, none_yet, total, cost_of}
use Rattle.standing.specs.Panel.Heading.{HELD, PASSED, DECLINED, CHANGES}
use Rattle.standing.specs.Told.{Opens, Ends, Never, Made, CountOf, attendant_at, case_at, Since, MeetingSince, FloorSince, CheapestYet, Under}

module _ (m : Model) (start : m.Case) where
  -- what is shown as the cheapest dispatch
  pub record ShownStands (h : History m) (shown : Option (Priced m)) : Type 0 where
    -- one is shown exactly if one that meets every limit was offered since the last taken change
    pub only_if_offered : is_some shown ≡ true → (d : Priced m) × MeetingSince m start h d
    pub if_offered : (d : Priced m) → MeetingSince m start h d → is_some shown ≡ true
    -- it is one of those, at the cost that is counted in the case as it now is
    pub is_offered : (d : Priced m) → shown ≡ Some d → MeetingSince m start h d
    pub at_counted_cost : (d : Priced m) → shown ≡ Some d → d.cost ≡ m.counted (case_at m start h) d.dispatch
    -- it meets every limit of the case as it now is
    pub meets_now : (d : Priced m) → shown ≡ Some d → Meets m (case_at m start h) d.dispatch
    -- it truly costs no more than that
    pub truly :
        (d : Priced m) → shown ≡ Some d → m.true_cost (case_at m start h) (m.in_fractions (case_at m start h) d.dispatch) ≤ᶠ whole d.cost
    -- it was counted cheaper than all of those before it: of some that are counted alike, the first is shown
    pub first : (d : Priced m) → shown ≡ Some d → Since m start (CheapestYet m start) h d
    -- every other of those was counted at least as dear
    pub cheapest : (d e : Priced m) → shown ≡ Some d → MeetingSince m start h e → d.cost ≤ℤ e.cost

  -- what is shown as the floor
  pub record FloorStands (h : History m) (floor : Option ℤ) : Type 0 where
    -- every dispatch that meets the case, in fractions too, truly costs at least the floor
    pub none_cheaper :
        (f : ℤ) → floor ≡ Some f → (r : m.Rival) → m.MeetsInFractions (case_at m start h) r → whole f ≤ᶠ m.true_cost (case_at m start h) r
    -- one is shown exactly if a lawful list was offered since the last taken change
    pub only_if_offered : is_some floor ≡ true → (f : ℤ) × FloorSince m start h f
    pub if_offered : (f : ℤ) → FloorSince m start h f → is_some floor ≡ true
    -- it is the floor of one of those, and none of them has a higher one
    pub is_offered : (f : ℤ) → floor ≡ Some f → FloorSince m start h f
    pub highest : (f g : ℤ) → floor ≡ Some f → FloorSince m start h g → g ≤ℤ f

  -- each count is the number of the calls under its heading, and all of them together that of the offers and changes made
  pub record CountsStand (Anew : Call m → Type 0) (h : History m) (n : Counts) : Type 0 where
    pub held : CountOf Anew (Under m start HELD) h n.held
    pub passed : CountOf Anew (Under m start PASSED) h n.passed
    pub declined : CountOf Anew (Under m start DECLINED) h n.declined
    pub changes : CountOf Anew (Under m start CHANGES) h n.changes
    pub all : CountOf Anew Made h (total n)

  -- the open watch: its attendant was the last to be let in, and its counts are those of the calls since then
  pub record WatchStands (h : History m) (w : Watch) : Type 0 where
    pub attendant_is : attendant_at h ≡ Some w.attendant
    pub counts_stand : CountsStand Opens h w.counts

  -- the panel is idle, or its watch stands
  abbrev pub OnWatch : History m → Option Watch → Type 0
  OnWatch h None = attendant_at h ≡ None
  OnWatch h (Some w) = WatchStands h w

  -- the sheet tells the watch, the cost and the floor as they stand
  pub record SheetStands (h : History m) (x : Sheet) : Type 0 where
    pub watch_stands : WatchStands h (record { attendant = x.attendant; counts = x.counts })
    pub shown : Option (Priced m)
    pub shown_stands : ShownStands h shown
    pub cost_is : x.cost ≡ cost_of shown
    pub floor_stands : FloorStands h x.floor

  -- there is a sheet for each call that ended a watch, and it tells what stood when that call came
  pub data SheetsStand : History m → List Sheet → Type 0 where
    none : SheetsStand [] []
    written : {h : History m} {c : Call m} {x : Sheet} {sheets : List Sheet} → Ends c → SheetStands h x → SheetsStand h sheets → SheetsStand (c ∷ h) (x ∷ sheets)
    unwritten : {h : History m} {c : Call m} {sheets : List Sheet} → ¬ Ends c → SheetsStand h sheets → SheetsStand (c ∷ h) sheets

infixl 65 ◌⊕◌
abbrev pub ◌⊕◌ : Counts → Counts → Counts
a ⊕ b =
    record { held = a.held + b.held; passed = a.passed + b.passed; declined = a.declined + b.declined; changes = a.changes + b.changes }

-- the counts of the open watch
abbrev pub of_watch : Option Watch → Counts
of_watch None = none_yet
of_watch (Some w) = w.counts

-- those and the counts of all sheets
abbrev pub over_all : Counts → List Sheet → Counts
over_all n [] = n
over_all n (x ∷ sheets) = x.counts ⊕ over_all n sheets

-- what stands after the calls of the history, which began with the case `start` and have written the sheets
pub record Stands (m : Model) (start : m.Case) (h : History m) (sheets : List Sheet) (s : State m) : Type 0 where
  -- the case is the first one with every taken change made, and is well-formed
  pub case_is : s.case ≡ case_at m start h
  pub well_formed : m.WellFormed s.case
  pub shown_stands : ShownStands m start h s.shown
  pub floor_stands : FloorStands m start h s.floor
  -- the shown cost is not below the floor
  pub floor_below : (d : Priced m) (f : ℤ) → s.shown ≡ Some d → s.floor ≡ Some f → f ≤ℤ d.cost
  pub watch_stands : OnWatch m start h s.watch
  pub sheets_stand : SheetsStand m start h sheets
  -- the counts of the open watch and of all sheets are those of all calls
  pub counts_stand : CountsStand m start Never h (over_all (of_watch s.watch) sheets)
