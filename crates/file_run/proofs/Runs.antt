-- All calls of a file are a run.
use Rattle.std.proofs.Common.{◌≡◌, ℕ, List, [], ◌∷◌, ◌++◌, sym, refl, ap, ◌∙◌, subst, append_assoc, append-nil}
use Rattle.machine.specs.Meaning.{Meaning}
use Rattle.sheet.specs.declared.sheet.Sheet as page
use Rattle.standing.specs.Call.{History}
use Rattle.standing.specs.Call.Call.{man, stand_down}
use Rattle.standing.specs.Panel.{State, Sheet, new_panel, watched_by}
use Rattle.standing.specs.Run.{Run}
use Rattle.standing.specs.Step.{Step}
use Rattle.standing.proofs.Runs.{goes_on}
use Rattle.panel_model.specs.Network.{network, SizedCase, WellSized}
use Rattle.panel.specs.Questions.{StoodDown}
use Rattle.panel.specs.Standing.{StandsOn}
use Rattle.panel.specs.View.{sheet_told}
use Rattle.answer.specs.Laws.{AnswerFits}
use Rattle.answer.specs.Printed.{printed}
use Rattle.answer.specs.declared.answer.Answer.{Answer}
use Rattle.answer.specs.declared.answer.Answer.TheVariants as answer
use Rattle.file_run.specs.Answers.{sheet_in}
use Rattle.file_run.specs.Papers.{PapersRun, PapersAnswered, Printed}
use Rattle.file_run.specs.Papers.PapersRun.{none, next}
use Rattle.file_run.specs.Run.{PanelRun}
use Rattle.file_run.proofs.Brought.{line_more, fits_more}

module _ {M N : Type 0} (𝓜 : Meaning M) (𝓝 : Meaning N) (start : SizedCase M N) where
  -- a run goes on with the calls that papers make
  papers_go_on :
      {s : State (network 𝓜 𝓝)} {ps : List (List ℕ)} {h : History (network 𝓜 𝓝)} {sheets : List Sheet} {t : State (network 𝓜 𝓝)} {answers : List Answer} →
      PapersRun 𝓜 𝓝 s ps h sheets t answers → (before : History (network 𝓜 𝓝)) (written : List Sheet) → Run (network 𝓜 𝓝) start before written s →
      Run (network 𝓜 𝓝) start (h ++ before) (sheets ++ written) t
  papers_go_on none before written r = r
  papers_go_on (next {ps = ps} {h = h} {sheets = sheets} {c = c} {u = u} {a = a} p k) before written r =
      let more : Run (network 𝓜 𝓝) start (c ∷ (h ++ before)) (sheet_in a ++ (sheets ++ written)) u = goes_on (papers_go_on p before written r) k.step (sheet_in a) (sym k.sheet) in
      subst (λ (x : List Sheet). Run (network 𝓜 𝓝) start (c ∷ (h ++ before)) x u) (sym (append_assoc (sheet_in a) sheets written)) more

  module _ (i m t e : State (network 𝓜 𝓝)) (ps : List (List ℕ)) (x : page.Sheet) where
    -- manned, brought the papers, and stood down
    panel_runs :
        (answers : List Answer) → WellSized 𝓜 𝓝 start → i ≡ new_panel start → Run (network 𝓜 𝓝) start [] [] i → m ≡ watched_by 1 i → Step (man 1) i m →
        PapersAnswered 𝓜 𝓝 m ps t answers → StoodDown 𝓜 𝓝 t e x → Step stand_down t e → StandsOn 𝓜 𝓝 e →
        PanelRun 𝓜 𝓝 start ps (answers ++ (answer.Sheet x ∷ []))
    panel_runs answers sized new r watched man_step p stood down_step stands =
        let manned : Run (network 𝓜 𝓝) start (man 1 ∷ []) [] m = goes_on r man_step [] refl in
        let brought : Run (network 𝓜 𝓝) start (p.calls ++ (man 1 ∷ [])) (p.sheets ++ []) t = papers_go_on p.run (man 1 ∷ []) [] manned in
        let same : Run (network 𝓜 𝓝) start (p.calls ++ (man 1 ∷ [])) p.sheets t = subst (λ (y : List Sheet). Run (network 𝓜 𝓝) start (p.calls ++ (man 1 ∷ [])) y t) (append-nil p.sheets) brought in
        let down : Run (network 𝓜 𝓝) start (stand_down ∷ (p.calls ++ (man 1 ∷ []))) (sheet_told x ∷ p.sheets) e = goes_on same down_step (sheet_told x ∷ []) (sym stood.sheet) in
        record {
          sized = sized;
          calls = p.calls;
          sheets = p.sheets;
          manned = t;
          answered = answers;
          papers_run = subst (λ (s : State (network 𝓜 𝓝)). PapersRun 𝓜 𝓝 s ps p.calls p.sheets t answers) (watched ∙ ap (watched_by 1) new) p.run;
          idle = e;
          last_sheet = x;
          stood_down = stood;
          all_answers = refl;
          run = down;
          stands = stands start (stand_down ∷ (p.calls ++ (man 1 ∷ []))) (sheet_told x ∷ p.sheets) down;
        }

    -- and what is printed of it
    pub panel_printed :
        (before middle after : List ℕ) → WellSized 𝓜 𝓝 start → i ≡ new_panel start → Run (network 𝓜 𝓝) start [] [] i → m ≡ watched_by 1 i →
        Step (man 1) i m → Printed (PapersAnswered 𝓜 𝓝 m ps t) before middle → StoodDown 𝓜 𝓝 t e x → Step stand_down t e → StandsOn 𝓜 𝓝 e →
        AnswerFits (answer.Sheet x) → after ≡ middle ++ printed (answer.Sheet x) → Printed (PanelRun 𝓜 𝓝 start ps) before after
    panel_printed before middle after sized new r watched man_step p stood down_step stands f q = record {
      answers = p.answers ++ (answer.Sheet x ∷ []);
      such = panel_runs p.answers sized new r watched man_step p.such stood down_step stands;
      fits = fits_more p.answers (answer.Sheet x) p.fits f;
      lines = line_more before middle after p.answers (answer.Sheet x) p.lines q;
    }
