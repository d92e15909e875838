use Rattle.std.proofs.Common.{rules, w64, SFits, to_z-of_z}
use Rattle.sheet_format.specs.Sheet.{place_in_range, place_of}
use Rattle.sheet_reader.proofs.lines.PlaceLineSheetLine.is_in_range.Goals as goal

pub returns : goal.returns
unfolding place_in_range place_of
returns c places =
    let p = c.args.self.now in
    let f1 : SFits w64 p.orientation = search rules in
    let f2 : SFits w64 p.x = search rules in
    let f3 : SFits w64 p.y = search rules in
    let f4 : SFits w64 p.x0 = search rules in
    let f5 : SFits w64 p.y0 = search rules in
    let f6 : SFits w64 p.x1 = search rules in
    let f7 : SFits w64 p.y1 = search rules in
    let f8 : SFits w64 p.slop = search rules in
    let f9 : SFits w64 p.level = search rules in
    let f10 : SFits w64 p.flags = search rules in
    rw (c.within.ensures, c.coordinate.ensures, c.coordinate-2.ensures, c.corners.ensures, c.within-2.ensures, c.within-3.ensures, c.within-4.ensures, to_z-of_z f1, to_z-of_z f2, to_z-of_z f3, to_z-of_z f4, to_z-of_z f5, to_z-of_z f6, to_z-of_z f7, to_z-of_z f8, to_z-of_z f9, to_z-of_z f10)
