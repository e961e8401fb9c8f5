use Rattle.network.specs.View.{case_of}
use Rattle.pricing.specs.Kept.{prices_of}
use Rattle.pricing.proofs.PriceLists.{refused_unrated, refused_weight, refused_residue, lawful_list}
use Rattle.pricing.proofs.residue.PricedCase.check.Goals as goal

pub returns-in-Some-unrated : goal.returns-in-Some-unrated
returns-in-Some-unrated g c =
    let s = c.args.self.now in
    let k = c.in_default.ensures in
    refused_unrated (case_of s.case) (prices_of g.C.Column.value s.prices.now) k.0 k.1 c.in-Some-unrated.row c.in-Some-unrated.ensures

pub returns-in-Some-overweight : goal.returns-in-Some-overweight
returns-in-Some-overweight g c =
    let s = c.args.self.now in
    let k = c.in_default.ensures in
    refused_weight (case_of s.case) (prices_of g.C.Column.value s.prices.now) k.0 k.1 c.in_default-unrated.ensures c.in-Some-overweight.row c.in-Some-overweight.ensures

pub returns-in-Some-residue_beyond : goal.returns-in-Some-residue_beyond
returns-in-Some-residue_beyond g c =
    let s = c.args.self.now in
    let k = c.in_default.ensures in
    refused_residue (case_of s.case) (prices_of g.C.Column.value s.prices.now) k.0 k.1 c.in_default-unrated.ensures c.in_default-overweight.ensures c.in-Some-residue_beyond.row c.in-Some-residue_beyond.ensures

pub returns : goal.returns
returns g c =
    let s = c.args.self.now in
    let k = c.in_default.ensures in
    lawful_list (case_of s.case) (prices_of g.C.Column.value s.prices.now) k.0 k.1 c.in_default-unrated.ensures c.in_default-overweight.ensures c.in_default-residue_beyond.ensures
