use Rattle.std.proofs.Common.{◌≡◌, pos, Some, codes, ap, ◌∙◌, subst, arith}
use Rattle.sheet.specs.Figure.{Short, amount_of, excess_of, gap_of, line_of}
use Rattle.sheet.specs.Lines.{sheet_lines, sheet_bytes}
use Rattle.sheet.specs.Page.{text_of}
use Rattle.sheet.specs.Reading.{read_sheet, read_gap}
use Rattle.sheet.proofs.Pages.{page_bytes}
use Rattle.sheet.proofs.Readings.{Shorts, sheet_again, gap_again}
use Rattle.sheet.proofs.Texts.{eight_ended}
use Rattle.sheet.proofs.sheet.Sheet.write.Goals as goal

text-written : (c : goal.After-push_line-8) → text_of c.push_line-8.new.self ≡ sheet_lines c.args.self.now
unfolding sheet_lines
text-written c =
    let s = c.args.self.now in
    simp (
      c.blank-page.ensures.0,
      c.push_line.ensures.text,
      c.push_line-2.ensures.text,
      c.push_line-3.ensures.text,
      c.push_line-4.ensures.text,
      c.push_line-5.ensures.text,
      c.push_line-6.ensures.text,
      c.push_line-7.ensures.text,
      c.push_line-8.ensures.text,
      c.from-2.ensures,
      c.from.ensures,
      c.from-3.ensures,
      c.from-4.ensures,
      c.from-5.ensures,
      c.from-6.ensures,
      c.from-7.ensures,
      c.from-8.ensures,
      c.of_gap.ensures,
    )
    (eight_ended (line_of (codes "WATCH") (Some (pos s.attendant))) (line_of (codes "HELD") (Some (pos s.held)))
    (line_of (codes "PASSED") (Some (pos s.passed))) (line_of (codes "DECLINED") (Some (pos s.declined)))
    (line_of (codes "CHANGES") (Some (pos s.changes))) (line_of (codes "COST") (amount_of s.cost))
    (line_of (codes "FLOOR") (amount_of s.floor)) (line_of (codes "GAP") (excess_of (gap_of s.cost s.floor))))

shorts : (c : goal.After-push_line-8) → Shorts c.args.self.now
shorts c = record {
  attendant = subst Short (c.from-2.ensures ∙ ap (λ n. Some (pos n)) c.from.ensures) c.from-2.result.short;
  held = subst Short c.from-3.ensures c.from-3.result.short;
  passed = subst Short c.from-4.ensures c.from-4.result.short;
  declined = subst Short c.from-5.ensures c.from-5.result.short;
  changes = subst Short c.from-6.ensures c.from-6.result.short;
  cost = subst Short c.from-7.ensures c.from-7.result.short;
  floor = subst Short c.from-8.ensures c.from-8.result.short;
  gap = subst Short c.of_gap.ensures c.of_gap.result.short;
}

bytes-written : (c : goal.After-push_line-8) → c.push_line-8.new.self.bytes ≡ sheet_bytes c.args.self.now
unfolding sheet_bytes
bytes-written c =
    let p = c.push_line-8.new.self in page_bytes p.len p.bytes (sheet_lines c.args.self.now) (omega arith) p.ok (text-written c)

pub returns : goal.returns
returns c = record {
  bytes = bytes-written c;
  text = text-written c;
  figures = ap read_sheet (bytes-written c) ∙ sheet_again c.args.self.now (shorts c);
  gap = ap read_gap (bytes-written c) ∙ gap_again c.args.self.now (shorts c);
}
