-- The calls of a day on one panel, in their order, and what stands after them.
use Rattle.std.specs.Prelude.{ℕ, List, [], ◌∷◌, length, Ok, Err, Option, Result}
use Rattle.machine.specs.Meaning.{Meaning}
use Rattle.build.specs.declared.tables.Rows.{Rows}
use Rattle.word.specs.declared.fault.WordFault.{WordFault}
use Rattle.paper.specs.Dispatch.{Dispatch}
use Rattle.paper.specs.Prices.{Prices}
use Rattle.sheet.specs.declared.sheet.Sheet as page
use Rattle.standing.specs.Call.{History}
use Rattle.standing.specs.Call.Call.{man, offer, ask, hand_over, stand_down}
use Rattle.standing.specs.Call.Offer.{dispatch, prices}
use Rattle.standing.specs.Call.Question.{reading, reading_out}
use Rattle.standing.specs.Panel.{State, Sheet}
use Rattle.standing.specs.Run.{Run}
use Rattle.standing.specs.Standing.{Stands}
use Rattle.panel_model.specs.Network.{network, SizedCase}
use Rattle.panel_model.specs.Says.{SaysDispatch, SaysPrices, SaysAttendant}
use Rattle.panel.specs.Opening.{RowsOpened}
use Rattle.panel.specs.Questions.{Reads, ReadOut, HandedOver}
use Rattle.panel.specs.Tables.{SameRest}
use Rattle.panel.specs.View.{sized_case, idle, sheet_told}
use Rattle.panel.specs.declared.panel.Panel.{Panel}
use Rattle.panel.specs.declared.tables.Tables.{Tables}
use Rattle.panel.specs.declared.watch.Idle.{Idle}
use Rattle.client.specs.declared.day.DayEnd.{DayEnd}
use Rattle.client.specs.declared.day.Papers.{Papers}

-- what the papers say; none where a paper is at fault
pub record Said : Type 0 where
  pub dispatch : Option Dispatch
  pub prices : Option Prices
  pub next : Option ℕ

-- the sheet of the hand-over, if one was written
abbrev pub handed_sheet : Result page.Sheet WordFault → List Sheet
handed_sheet (Ok x) = sheet_told x ∷ []
handed_sheet (Err f) = []

module _ {M N : Type 0} where
  -- the papers say this for the case
  pub record PapersSay (start : SizedCase M N) (w : Papers) (said : Said) : Type 0 where
    pub dispatch : SaysDispatch start.powers start.angles w.dispatch.now said.dispatch
    pub prices : SaysPrices (length start.case.buses) (length start.case.branches) w.prices.now said.prices
    pub next : SaysAttendant w.next.now said.next

  module _ (𝓜 : Meaning M) (𝓝 : Meaning N) (said : Said) where
    -- the first calls, the newest first: attendant 5 mans the panel, and the dispatch and the list are offered
    abbrev pub offers : History (network 𝓜 𝓝)
    offers = offer (prices said.prices) ∷ (offer (dispatch said.dispatch) ∷ (man 5 ∷ []))

    -- all calls: then the panel is read and read out, handed over, and stood down
    abbrev pub day_calls : History (network 𝓜 𝓝)
    day_calls = stand_down ∷ (hand_over said.next ∷ (ask reading_out ∷ (ask reading ∷ offers)))

module _ {M N : Type 0} (𝓜 : Meaning M) (𝓝 : Meaning N) where
  -- on a panel that is opened on the rows, these calls are a run, which has written these sheets, and what is shown stands
  pub record DayRun (rows : Rows M N) (before : Tables) (w : Papers) (list_before list_after : List ℕ) (d : DayEnd M N) : Type 0 where
    pub opened : Panel M N Idle
    pub on_rows : RowsOpened 𝓜 𝓝 rows before opened
    pub said : Said
    pub papers_say : PapersSay (sized_case opened) w said
    -- after the offers: what is read is what then stands, and the list holds its dispatch
    pub offered : State (network 𝓜 𝓝)
    pub offers_run : Run (network 𝓜 𝓝) (sized_case opened) (offers 𝓜 𝓝 said) [] offered
    pub offers_stand : Stands (network 𝓜 𝓝) (sized_case opened) (offers 𝓜 𝓝 said) [] offered
    pub reading : Reads 𝓜 𝓝 offered d.reading
    pub list : ReadOut 𝓜 𝓝 offered list_before list_after d.read_out
    -- the hand-over, and the watch that it leaves
    pub next : State (network 𝓜 𝓝)
    pub handed : HandedOver 𝓜 𝓝 w.next.now offered next d.handed_over
    -- of the lent tables only what the state tells is altered
    pub rest : SameRest opened d.panel
    -- after all calls
    pub run : Run (network 𝓜 𝓝) (sized_case opened) (day_calls 𝓜 𝓝 said) (sheet_told d.last ∷ handed_sheet d.handed_over) (idle 𝓜 𝓝 d.panel)
    pub stands : Stands (network 𝓜 𝓝) (sized_case opened) (day_calls 𝓜 𝓝 said) (sheet_told d.last ∷ handed_sheet d.handed_over) (idle 𝓜 𝓝 d.panel)
