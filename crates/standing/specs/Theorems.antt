-- What holds of the panels of any network.
use Rattle.std.specs.Prelude.{◌≡◌, ◌+◌, true, false, List, Some, None, Option}
use Rattle.standing.specs.Model.{Model, Meets}
use Rattle.standing.specs.Call.{Call, Offer, Question, History}
use Rattle.standing.specs.Call.Call.{offer, change, ask, hand_over}
use Rattle.standing.specs.Call.Offer.{dispatch, prices}
use Rattle.standing.specs.Panel.{Heading, Watch, Sheet, Priced, State, total, is_full, counting}
use Rattle.standing.specs.Panel.Heading.{PASSED, DECLINED}
use Rattle.standing.specs.Step.{Offered, Step}
use Rattle.standing.specs.Run.{Run}
use Rattle.standing.specs.Standing.{Stands}

-- after any run of calls on a panel, all this stands
abbrev pub StandingTheorem : Model → Type 0
StandingTheorem m =
    (start : m.Case) (h : History m) (sheets : List Sheet) (s : State m) → Run m start h sheets s → Stands m start h sheets s

-- the same panel and the same sheets
pub record SamePanel {m : Model} (sheets sheets' : List Sheet) (s t : State m) : Type 0 where
  pub case_same : s.case ≡ t.case
  -- the dispatch and its cost
  pub shown_same : s.shown ≡ t.shown
  pub floor_same : s.floor ≡ t.floor
  -- the attendant and the counts
  pub watch_same : s.watch ≡ t.watch
  -- the attendant, the counts, the cost and the floor of each
  pub sheets_same : sheets ≡ sheets'

-- what stands leaves no choice: two panels of which it stands after one history are the same
abbrev pub PinningTheorem : Model → Type 0
PinningTheorem m =
    (start : m.Case) (h : History m) (sheets sheets' : List Sheet) (s t : State m) →
    Stands m start h sheets s → Stands m start h sheets' t → SamePanel sheets sheets' s t

-- so the calls made leave none: two runs of the same calls lead to the same panel and write the same sheets
abbrev pub SameCallsTheorem : Model → Type 0
SameCallsTheorem m =
    (start : m.Case) (h : History m) (sheets sheets' : List Sheet) (s t : State m) →
    Run m start h sheets s → Run m start h sheets' t → SamePanel sheets sheets' s t

module _ {m : Model} where
  -- an offer or a change that the case does not bear out, or whose paper is faulty
  pub data Refused (s : State m) : Call m → Type 0 where
    faulty_dispatch : Refused s (offer (dispatch None))
    limits_broken : {d : m.Dispatch} → ¬ Meets m s.case d → Refused s (offer (dispatch (Some d)))
    faulty_prices : Refused s (offer (prices None))
    not_lawful : {l : m.Prices} → ¬ m.Lawful s.case l → Refused s (offer (prices (Some l)))
    faulty_change : Refused s (change None)
    name_lacking : {x : m.Change} → m.changed s.case x ≡ None → Refused s (change (Some x))

  pub data OfferOrChange : Call m → Type 0 where
    an_offer : {o : Offer m} → OfferOrChange (offer o)
    a_change : {x : Option m.Change} → OfferOrChange (change x)

-- refusals alter nothing but one count
pub record RefusalsAlterNothing (m : Model) : Type 0 where
  -- what is refused raises DECLINED by one, and leaves the case, what is shown, the floor, the attendant and the other counts
  pub refused :
      (c : Call m) (s t : State m) (w : Watch) → Step c s t → s.watch ≡ Some w → is_full (total w.counts) ≡ false → Refused s c →
      t ≡ counting DECLINED w s
  -- nothing else raises it
  pub only_refused :
      (c : Call m) (s t : State m) (w v : Watch) → Step c s t → s.watch ≡ Some w → t.watch ≡ Some v →
      v.counts.declined ≡ w.counts.declined + 1 → Refused s c
  -- what is met by a full watch leaves everything
  pub too_many :
      (c : Call m) (s t : State m) (w : Watch) → Step c s t → s.watch ≡ Some w → is_full (total w.counts) ≡ true → OfferOrChange c → t ≡ s
  -- so do a question and a hand-over that names nobody
  pub asked : (q : Question) (s t : State m) → Step (ask q) s t → t ≡ s
  pub hand_over_refused : (s t : State m) → Step (hand_over None) s t → t ≡ s

-- the dispatch, offered, is passed, and nothing else can become of it
pub record IsPassedOver {m : Model} (s : State m) (d : m.Dispatch) : Type 0 where
  pub passed : Offered s (dispatch (Some d)) PASSED s
  pub not_otherwise : (k : Heading) (t : State m) → Offered s (dispatch (Some d)) k t → (k ≡ PASSED) × (t ≡ s)

-- the shown dispatch, offered again to the same panel, is passed where the watch is not full
abbrev pub ReofferedTheorem : Model → Type 0
ReofferedTheorem m =
    (start : m.Case) (h : History m) (sheets : List Sheet) (s : State m) (d : Priced m) →
    Run m start h sheets s → s.shown ≡ Some d → IsPassedOver s d.dispatch
