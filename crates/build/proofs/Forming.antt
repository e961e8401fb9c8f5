-- A case that is laid is well formed.
use Rattle.std.proofs.Common.{◌≡◌, ℕ, ◌≤◌, List, length, get_or, take, ℤ, pos, ◌≤ℤ◌, sym, ap, ◌∙◌, subst, inr, arith}
use Rattle.std.proofs.lemmas.List.{length-take}
use Rattle.measure.specs.Rows.{Stands}
use Rattle.measure.proofs.Sums.{stands_one, stands-get_or}
use Rattle.names.specs.declared.branch.BranchName.{BranchName}
use Rattle.names.specs.Names.{Distinct}
use Rattle.names.proofs.Tables.{equality, distinct, only_row}
use Rattle.machine.specs.Meaning.{Meaning}
use Rattle.network.specs.declared.bus.Bus.{Bus}
use Rattle.network.specs.declared.branch.Branch.{Branch}
use Rattle.build.specs.declared.rows.BusRow.{BusRow}
use Rattle.build.specs.declared.rows.BranchRow.{BranchRow}
use Rattle.build.specs.declared.tables.Rows.{Rows}
use Rattle.build.specs.declared.tables.LaidCase.{LaidCase}
use Rattle.build.specs.Raw.{BusOf}
use Rattle.build.specs.Offer.{Found, HasBus}
use Rattle.build.specs.Build.{Filled, Placed, Joined, Lent, Laid, TheRow, WellFormed, laid_case}
use Rattle.build.proofs.Filling.{stands_within, filled_forth, filled_back, filled_length}
use Rattle.build.proofs.Known.{branches_known}

-- names that are distinct where they were given are distinct where they are filled in
distinct_filled : {X Y K : Type 0} (R : X → Y → Type 0) (name : X → K) (name' : Y → K) → ((x : X) (y : Y) → R x y → name' y ≡ name x) → (given : List X) (before after : List Y) (n : ℕ) → n ≡ length given → Filled R given before after n → Distinct ◌≡◌ name given → Distinct ◌≡◌ name' (take n after)
distinct_filled R name name' named given before after n all f d = record {
  one_row = λ i j y z s t e.
      let p = filled_back R given before after n all f i y s in
      let q = filled_back R given before after n all f j z t in
      d.one_row i j p.0 q.0 p.1 q.1 (sym (named p.0 y p.2) ∙ e ∙ named q.0 z q.2);
}

-- the row in which a bus is found is the one row of that name
the_row : (given : List BusRow) (before after : List Bus) (n : ℕ) → n ≡ length given → Filled BusOf given before after n → Distinct ◌≡◌ (λ (b : BusRow). b.name) given → (name i : ℕ) → Found given name i → TheRow (take n after) name i
the_row given before after n all f d name i found =
    let r = found.0 in
    let h = filled_forth BusOf given before after n all f i r.item r.stands in
    record {
      has = record { item = h.item; stands = h.stands; holds = h.holds.name ∙ r.holds };
      one = λ j k.
          let p = filled_back BusOf given before after n all f j k.item k.stands in
          only_row ◌≡◌ (λ (b : BusRow). b.name) given equality d name j i (record { item = p.0; stands = p.1; holds = sym p.2.name ∙ k.holds }) r;
    }

few : {X : Type 0} (n m : ℕ) (xs : List X) → length xs ≤ m → length (take n xs) ≤ m
few n m xs h = simp length-take (omega arith)

module _ {M N : Type 0} (𝓜 : Meaning M) (𝓝 : Meaning N) (o : Rows M N) (before after : Lent) (n : LaidCase) (l : Laid 𝓜 𝓝 o before after n) where
  bus_names : Distinct ◌≡◌ (λ (b : BusRow). b.name) o.buses.now
  bus_names = distinct ◌≡◌ (λ (b : BusRow). b.name) o.buses.now equality l.accepted.names.buses

  branch_names : Distinct ◌≡◌ (λ (b : BranchRow). b.name) o.branches.now
  branch_names = distinct ◌≡◌ (λ (b : BranchRow). b.name) o.branches.now equality l.accepted.names.branches

  found : (name i : ℕ) → Found o.buses.now name i → TheRow (take n.counts.buses after.buses) name i
  found = the_row o.buses.now before.buses after.buses n.counts.buses l.counted.buses l.buses bus_names

  row_of : (i : ℕ) (b : Branch) → Stands (take n.counts.branches after.branches) i b → (r : BranchRow) × Stands o.branches.now i r × Joined o.buses.now r b
  row_of = filled_back (Joined o.buses.now) o.branches.now before.branches after.branches n.counts.branches l.counted.branches l.branches

  placed : {K : Type 0} (𝓚 : Meaning K) (machines : List K) (was places : List ℕ) (k : ℕ) → k ≡ length machines → Filled (Placed 𝓚 o.buses.now) machines was places k → (i : ℕ) (m : K) → Stands (take k machines) i m → TheRow (take n.counts.buses after.buses) (𝓚.bus m) (get_or places i 0)
  placed 𝓚 machines was places k all f i m s =
      let t = filled_forth (Placed 𝓚 o.buses.now) machines was places k all f i m (stands_within k machines i m s) in
      found (𝓚.bus m) (get_or places i 0)
      (subst (Found o.buses.now (𝓚.bus m)) (stands-get_or places i t.item 0 (stands_within k places i t.item t.stands)) t.holds)

  from_end : (i : ℕ) (b : Branch) → Stands (take n.counts.branches after.branches) i b → TheRow (take n.counts.buses after.buses) b.name.from b.ends.from
  from_end i b s =
      let r = row_of i b s in
      found b.name.from b.ends.from (subst (λ (k : BranchName). Found o.buses.now k.from b.ends.from) (sym r.2.row.name) r.2.from)

  to_end : (i : ℕ) (b : Branch) → Stands (take n.counts.branches after.branches) i b → TheRow (take n.counts.buses after.buses) b.name.to b.ends.to
  to_end i b s =
      let r = row_of i b s in
      found b.name.to b.ends.to (subst (λ (k : BranchName). Found o.buses.now k.to b.ends.to) (sym r.2.row.name) r.2.to)

  -- ends in one row would have one name
  one_name : (from to i j : ℕ) → HasBus o.buses.now from i → HasBus o.buses.now to j → i ≡ j → from ≡ to
  one_name from to i j h k e =
      sym h.holds ∙ ap (λ (b : BusRow). b.name) (stands_one o.buses.now j h.item k.item (subst (λ m. Stands o.buses.now m h.item) e h.stands) k.stands) ∙ k.holds

  differ : (i : ℕ) (b : Branch) → Stands (take n.counts.branches after.branches) i b → b.ends.from ≡ b.ends.to → ⊥
  differ i b s e =
      let r = row_of i b s in
      let same = one_name r.0.name.from r.0.name.to b.ends.from b.ends.to r.2.from.0 r.2.to.0 e in
      branches_known 𝓜 𝓝 o l.accepted.known i (record { item = r.0; stands = r.1; holds = inr (inr same) })

  pub well_formed : WellFormed 𝓜 𝓝 (laid_case o after n)
  well_formed =
      let buses = filled_length BusOf o.buses.now before.buses after.buses n.counts.buses l.counted.buses l.buses in
      let branches = filled_length (Joined o.buses.now) o.branches.now before.branches after.branches n.counts.branches l.counted.branches l.branches in
      let sizes = l.accepted.sizes in
      record {
        tolerance = subst (λ (z : ℤ). (pos 0 ≤ℤ z) × (z ≤ℤ pos 100000)) (sym l.tolerance) sizes.tolerance;
        bus_count = rw buses sizes.buses;
        first_count = few n.counts.first 30 o.first.now sizes.first;
        second_count = few n.counts.second 30 o.second.now sizes.second;
        branch_count = rw branches sizes.branches;
        bus_names = distinct_filled BusOf (λ b. b.name) (λ b. b.name) (λ x y r. r.name) o.buses.now before.buses after.buses n.counts.buses l.counted.buses l.buses bus_names;
        branch_names = distinct_filled (Joined o.buses.now) (λ b. b.name) (λ b. b.name) (λ x y r. r.row.name) o.branches.now before.branches after.branches n.counts.branches l.counted.branches l.branches branch_names;
        first_places = placed 𝓜 o.first.now before.first after.first n.counts.first l.counted.first l.first;
        second_places = placed 𝓝 o.second.now before.second after.second n.counts.second l.counted.second l.second;
        from_ends = from_end;
        to_ends = to_end;
        ends_differ = differ;
      }
