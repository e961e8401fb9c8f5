-- What a call does to a panel. Nothing here decides whether a dispatch meets the case or a list is lawful: each step names the facts that it rests on.
use Rattle.std.specs.Prelude.{◌≡◌, ℕ, true, false, List, [], Some, None, Option}
use Rattle.standing.specs.Model.{Model, Meets}
use Rattle.standing.specs.Call.{Call, Offer, Question}
use Rattle.standing.specs.Call.Call.{man, offer, change, ask, hand_over, stand_down}
use Rattle.standing.specs.Call.Offer.{dispatch, prices}
use Rattle.standing.specs.Call.Question.{trial, reading, reading_out}
use Rattle.standing.specs.Panel.{Heading, Watch, Sheet, State, Cheaper, Higher, total, is_full, priced, showing, with_floor, with_case, with_watch, watched_by, counting, open_sheet}
use Rattle.standing.specs.Panel.Heading.{HELD, PASSED, DECLINED, CHANGES}

-- better than what is shown, or nothing is shown
abbrev pub Improves : {A : Type 0} → (A → A → Type 0) → A → Option A → Type 0
Improves Better a None = Unit {0}
Improves Better a (Some b) = Better a b

module _ {m : Model} where
  -- what becomes of an offer: the heading that it comes under, and the panel after it
  pub data Offered (s : State m) : Offer m → Heading → State m → Type 0 where
    -- a dispatch that meets the case is shown if it is cheaper than the one shown
    dispatch_held :
        {d : m.Dispatch} → Meets m s.case d → Improves Cheaper (priced s.case d) s.shown →
        Offered s (dispatch (Some d)) HELD (showing (priced s.case d) s)
    dispatch_passed :
        {d : m.Dispatch} → Meets m s.case d → ¬ Improves Cheaper (priced s.case d) s.shown → Offered s (dispatch (Some d)) PASSED s
    dispatch_declined : {d : m.Dispatch} → ¬ Meets m s.case d → Offered s (dispatch (Some d)) DECLINED s
    dispatch_faulty : Offered s (dispatch None) DECLINED s
    -- the floor of a lawful list is shown if it is higher than the one shown
    prices_held :
        {l : m.Prices} → m.Lawful s.case l → Improves Higher (m.floor_of s.case l) s.floor →
        Offered s (prices (Some l)) HELD (with_floor (m.floor_of s.case l) s)
    prices_passed :
        {l : m.Prices} → m.Lawful s.case l → ¬ Improves Higher (m.floor_of s.case l) s.floor → Offered s (prices (Some l)) PASSED s
    prices_declined : {l : m.Prices} → ¬ m.Lawful s.case l → Offered s (prices (Some l)) DECLINED s
    prices_faulty : Offered s (prices None) DECLINED s

  -- what becomes of a change
  pub data ChangeMade (s : State m) : Option m.Change → Heading → State m → Type 0 where
    change_taken : {x : m.Change} {c : m.Case} → m.changed s.case x ≡ Some c → ChangeMade s (Some x) CHANGES (with_case c s)
    change_declined : {x : m.Change} → m.changed s.case x ≡ None → ChangeMade s (Some x) DECLINED s
    change_faulty : ChangeMade s None DECLINED s

  -- the panel may be asked: for a trial only in an open watch
  pub data MayAsk (s : State m) : Question → Type 0 where
    trial_manned : {w : Watch} → s.watch ≡ Some w → MayAsk s trial
    reading_always : MayAsk s reading
    reading_out_always : MayAsk s reading_out

  -- the call leads from one state of the panel to another
  pub data Step : Call m → State m → State m → Type 0 where
    manned : {s : State m} {a : ℕ} → s.watch ≡ None → Step (man a) s (watched_by a s)
    -- an offer and a change, counted under its heading
    offer_counted :
        {s t : State m} {o : Offer m} {k : Heading} {w : Watch} → s.watch ≡ Some w → is_full (total w.counts) ≡ false →
        Offered s o k t → Step (offer o) s (counting k w t)
    change_counted :
        {s t : State m} {x : Option m.Change} {k : Heading} {w : Watch} → s.watch ≡ Some w → is_full (total w.counts) ≡ false →
        ChangeMade s x k t → Step (change x) s (counting k w t)
    -- the same, met by a full watch
    offer_too_many : {s : State m} {o : Offer m} {w : Watch} → s.watch ≡ Some w → is_full (total w.counts) ≡ true → Step (offer o) s s
    change_too_many :
        {s : State m} {x : Option m.Change} {w : Watch} → s.watch ≡ Some w → is_full (total w.counts) ≡ true → Step (change x) s s
    asked : {s : State m} {q : Question} → MayAsk s q → Step (ask q) s s
    -- the next watch is opened, or the paper names nobody
    handed_over : {s : State m} {a : ℕ} {w : Watch} → s.watch ≡ Some w → Step (hand_over (Some a)) s (watched_by a s)
    hand_over_refused : {s : State m} {w : Watch} → s.watch ≡ Some w → Step (hand_over None) s s
    stood_down : {s : State m} {w : Watch} → s.watch ≡ Some w → Step stand_down s (with_watch None s)

  -- what the call writes: the sheet of a watch that ends
  abbrev pub sheets_of : Call m → State m → List Sheet
  sheets_of (man a) s = []
  sheets_of (offer o) s = []
  sheets_of (change x) s = []
  sheets_of (ask q) s = []
  sheets_of (hand_over None) s = []
  sheets_of (hand_over (Some a)) s = open_sheet s.watch s
  sheets_of stand_down s = open_sheet s.watch s
