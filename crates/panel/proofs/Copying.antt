-- A column copied row by row.
use Rattle.std.proofs.Common.{◌≡◌, ℕ, ◌+◌, ◌<◌, min, List, ◌++◌, length, get_or, set, ℤ, pos, sym, subst, ◌∙◌, arith}
use native.Mathlib.Decide.{dec_lt}
use Rattle.std.proofs.lemmas.List.{get_or-set_same, get_or-set_other}
use Rattle.network.specs.declared.dispatch.Dispatch as view
use Rattle.word.specs.Column.{Gives, value_of}
use Rattle.word.specs.declared.column.WordColumn.{WordColumn}
use Rattle.paper.specs.Dispatch.{Dispatch}
use Rattle.panel_model.proofs.Columns.{take_least, drop_least, filled, both_filled}
use Rattle.panel.specs.Copied.{Given}
use Rattle.panel.specs.Judged.{GivesDispatch}

abbrev pub Copied : (ℕ → ℤ) → List ℤ → ℕ → Type 0
Copied value table i = (j : ℕ) → j < i → get_or table j (pos 0) ≡ value j

pub copied_more : (value : ℕ → ℤ) (table : List ℤ) (i : ℕ) (z : ℤ) → z ≡ value i → i < length table → Copied value table i → Copied value (set table i z) (i + 1)
copied_more value table i z e h c j l =
    elim (dec_lt j i) [
      | yes k ↦ get_or-set_other table i j z (pos 0) (λ q. omega arith) ∙ c j k
      | no k ↦
          let q : i ≡ j = omega arith in
          subst (λ n. get_or (set table i z) n (pos 0) ≡ value n) q (get_or-set_same table i z (pos 0) h ∙ e)
    ]

module _ (first : ℕ) (p : Dispatch) (d : view.Dispatch WordColumn) (g : GivesDispatch first p d) where
  -- the powers of both groups, one after the other
  pub copied_powers : (old xs ys : List ℤ) → length p.powers ≡ length old → length xs ≡ min first (length old) → length xs + length ys ≡ length old → Given (value_of d.first.column) xs → Given (value_of d.second.column) ys → xs ++ ys ≡ p.powers
  copied_powers old xs ys e f h one two =
      both_filled (min first (length old)) d.first.column d.second.column p.powers xs ys
      (subst (Gives d.first.column) (sym (take_least first (length old) p.powers e)) g.first)
      (subst (Gives d.second.column) (sym (drop_least first (length old) p.powers e)) g.second)
      f (omega arith) one two

  pub copied_angles : (old zs : List ℤ) → length p.angles ≡ length old → length zs ≡ length old → Given (value_of d.angles.column) zs → zs ≡ p.angles
  copied_angles old zs e f three = filled d.angles.column p.angles zs g.angles (f ∙ sym e) three
