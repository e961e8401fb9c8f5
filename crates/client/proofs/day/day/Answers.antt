use Rattle.std.proofs.Common.{List, [], ◌∷◌, length, refl, ap, ◌∙◌, sym, subst, append-nil}
use Rattle.standing.specs.Run.{Run}
use Rattle.standing.specs.Panel.{State, Sheet}
use Rattle.standing.proofs.Runs.{goes_on}
use Rattle.panel_model.specs.Network.{network}
use Rattle.panel_model.specs.Says.{SaysDispatch, SaysPrices}
use Rattle.panel.specs.View.{sized_case, idle, sheet_told}
use Rattle.client.specs.Day.{Said, handed_sheet, day_calls}
use Rattle.client.proofs.Days.{rest_kept, offer_leaves_rest, offer_leaves_case, sheet_handed}
use Rattle.client.proofs.day.day.Goals as goal

pub returns-clause-day : goal.returns-clause-day
returns-clause-day g c =
    let 𝓜 = g.M.Machine.meaning in
    let 𝓝 = g.N.Machine.meaning in
    let p = c.in_ok-panel.panel in
    let h = c.in_ok-panel.ensures in
    let start = sized_case p in
    let d = c.offer_dispatch.ensures.step in
    let l = c.offer_prices.ensures.step in
    let o = c.hand_over-handed_over in
    let n = o.ensures.step in
    let e = c.stand_down-panel in
    let same = ap (λ (s : State (network 𝓜 𝓝)). s.case) c.man-panel.ensures.exact in
    let same_after = offer_leaves_case d.step ∙ same in
    let manned_run = goes_on h.run.run c.man-panel.ensures.step [] refl in
    let offers_run = goes_on (goes_on manned_run d.step [] refl) l.step [] refl in
    let asked_run = goes_on (goes_on offers_run c.read-reading.ensures.step [] refl) c.read_out-read_out.ensures.step [] refl in
    let handed = handed_sheet o.result in
    let handed_run = goes_on asked_run n.step handed (sheet_handed 𝓜 𝓝 _ _ _ o.result o.ensures.exact n.says n.said) in
    let ended_run = goes_on handed_run e.ensures.step (sheet_told e.result.0 ∷ []) (sym e.ensures.exact.sheet) in
    let said : Said = record { dispatch = d.says; prices = l.says; next = n.says } in
    let end = idle 𝓜 𝓝 e.result.1 in
    let run =
    subst (λ (xs : List Sheet). Run (network 𝓜 𝓝) start (day_calls 𝓜 𝓝 said) (sheet_told e.result.0 ∷ xs) end) (append-nil handed)
    ended_run in
    record {
      opened = p;
      on_rows = h.exact;
      said = said;
      papers_say = record {
        dispatch = subst (λ k. SaysDispatch k.powers k.angles c.args.papers.now.dispatch.now d.says) same d.said;
        prices = subst (λ k. SaysPrices (length k.case.buses) (length k.case.branches) c.args.papers.now.prices.now l.says) same_after l.said;
        next = n.said;
      };
      offered = _;
      offers_run = offers_run;
      offers_stand = c.read-reading.ensures.standing start _ _ offers_run;
      reading = c.read-reading.ensures.exact;
      list = c.read_out-read_out.ensures.exact;
      next = _;
      handed = o.ensures.exact;
      rest = rest_kept c.man-panel.ensures.tables.rest
          (rest_kept (offer_leaves_rest _ c.offer_dispatch.ensures.tables)
          (rest_kept c.offer_prices.ensures.tables.rest (rest_kept o.ensures.tables.rest e.ensures.tables.rest)));
      run = run;
      stands = e.ensures.standing start _ _ run;
    }
