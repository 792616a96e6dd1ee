use Rattle.plane.proofs.callers.Told.{fails}
use Rattle.subdivide.proofs.Touched.{crossing_of, beside_first, beside_second, end_first, end_second, end_both}
use Rattle.subdivide.proofs.touch.touching.Goals as goal

pub returns-then-are_one_side : goal.returns-then-are_one_side
returns-then-are_one_side c = beside_first c.args.s.now.seg c.args.t.now.seg c.args.s.now.dir c.args.t.now.dir _ _ c.requires.marked.1.along c.requires.marked.2.along c.requires.different
    c.sides_of-a.ensures.lesser c.sides_of-a.ensures.greater (c.are_one_side.ensures.0 c.if-are_one_side.true)

pub returns-then-are_one_side-2 : goal.returns-then-are_one_side-2
returns-then-are_one_side-2 c = beside_second c.args.s.now.seg c.args.t.now.seg c.args.s.now.dir c.args.t.now.dir _ _ c.requires.marked.1.along c.requires.marked.2.along c.requires.different
    c.sides_of-c.ensures.lesser c.sides_of-c.ensures.greater (c.are_one_side-2.ensures.0 c.if-are_one_side-2.true)

pub inside-requires : goal.inside-requires
inside-requires c = crossing_of c.args.s.now.seg c.args.t.now.seg c.args.s.now.dir c.args.t.now.dir _ _ _ _ c.requires.marked.1.along c.requires.marked.2.along c.requires.different
    c.sides_of-a.ensures.lesser c.sides_of-a.ensures.greater c.sides_of-c.ensures.lesser c.sides_of-c.ensures.greater
    (fails c.are_one_side.ensures c.if-are_one_side.false) (fails c.are_one_side-2.ensures c.if-are_one_side-2.false)

pub returns-in-Some-Some : goal.returns-in-Some-Some
returns-in-Some-Some c =
    let crossing = (crossing_of c.args.s.now.seg c.args.t.now.seg c.args.s.now.dir c.args.t.now.dir _ _ _ _ c.requires.marked.1.along c.requires.marked.2.along c.requires.different
    c.sides_of-a.ensures.lesser c.sides_of-a.ensures.greater c.sides_of-c.ensures.lesser c.sides_of-c.ensures.greater
    (fails c.are_one_side.ensures c.if-are_one_side.false) (fails c.are_one_side-2.ensures c.if-are_one_side-2.false)) in
    end_both c.args.s.now.seg c.args.t.now.seg c.in-Some-Some.field-0-0 c.in-Some-Some.field-0-1
    (end_first c.args.s.now.seg c.args.t.now.seg c.args.s.now.dir c.args.t.now.dir _ _ c.in-Some-Some.field-0-0 crossing c.sides_of-a.ensures.lesser c.sides_of-a.ensures.greater c.in-Some-Some.ensures.some)
    (end_second c.args.s.now.seg c.args.t.now.seg c.args.s.now.dir c.args.t.now.dir _ _ c.in-Some-Some.field-0-1 crossing c.sides_of-c.ensures.lesser c.sides_of-c.ensures.greater c.in-Some-Some.ensures'.some)

pub returns-in-Some-None : goal.returns-in-Some-None
returns-in-Some-None c = end_first c.args.s.now.seg c.args.t.now.seg c.args.s.now.dir c.args.t.now.dir _ _ c.in-Some-None.end
    (crossing_of c.args.s.now.seg c.args.t.now.seg c.args.s.now.dir c.args.t.now.dir _ _ _ _ c.requires.marked.1.along c.requires.marked.2.along c.requires.different
    c.sides_of-a.ensures.lesser c.sides_of-a.ensures.greater c.sides_of-c.ensures.lesser c.sides_of-c.ensures.greater
    (fails c.are_one_side.ensures c.if-are_one_side.false) (fails c.are_one_side-2.ensures c.if-are_one_side-2.false))
    c.sides_of-a.ensures.lesser c.sides_of-a.ensures.greater c.in-Some-None.ensures.some

pub returns-in-None-Some : goal.returns-in-None-Some
returns-in-None-Some c = end_second c.args.s.now.seg c.args.t.now.seg c.args.s.now.dir c.args.t.now.dir _ _ c.in-None-Some.end
    (crossing_of c.args.s.now.seg c.args.t.now.seg c.args.s.now.dir c.args.t.now.dir _ _ _ _ c.requires.marked.1.along c.requires.marked.2.along c.requires.different
    c.sides_of-a.ensures.lesser c.sides_of-a.ensures.greater c.sides_of-c.ensures.lesser c.sides_of-c.ensures.greater
    (fails c.are_one_side.ensures c.if-are_one_side.false) (fails c.are_one_side-2.ensures c.if-are_one_side-2.false))
    c.sides_of-c.ensures.lesser c.sides_of-c.ensures.greater c.in-None-Some.ensures.some
