use Rattle.std.proofs.Common.{◌≡◌, eqb, length, take, ap, ◌∙◌, rules, arith}
use Rattle.std.specs.List.{position}
use Rattle.std.specs.Option.{unwrap_or}
use Rattle.link_table.proofs.positions.Places.{index_from_position, index_within}
use Rattle.link_table.proofs.Links.position.Goals as goal

pub returns : goal.returns
returns c =
    let l = c.args.self.now in
    let x = c.args.slot in
    let xs = take l.count l.order in
    let len : length xs ≡ l.count = search rules in
    let found : c.position.result ≡ position (λ y. eqb y x) xs = c.position.ensures in
    let is = c.unwrap_or.ensures ∙ ap (λ o. unwrap_or o l.count) found ∙ index_from_position x l.count xs len in
    (omega (arith, is, index_within x xs), is)
