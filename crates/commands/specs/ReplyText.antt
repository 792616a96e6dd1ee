-- The text of replies. Each line ends with a line feed.
use Rattle.std.specs.Prelude.{ℕ, List, [], ◌∷◌, ◌++◌, length, count_by, flat_map, codes, ◌==◌}
use Rattle.exact.specs.Plane.{ExactPoint, ExactSegment}
use Rattle.qroot2.specs.Text.{numeral, number_text}
use Rattle.plane.specs.PointText.{point_text}
use Rattle.layers.specs.declared.star.Ray.{Ray}
use Rattle.subdivide.specs.declared.edge.Edge.{Edge}
use Rattle.subdivide.specs.declared.edge.EdgeKind.{EdgeKind}
use Rattle.subdivide.specs.declared.edge.EdgeKind.TheVariants as kind
use Rattle.subdivide.specs.declared.edge.CutBad.{CutBad}
use Rattle.subdivide.specs.declared.edge.CutBad.TheVariants as cut
use Rattle.judge.specs.declared.verdict.Why.{Why}
use Rattle.judge.specs.declared.verdict.Why.TheVariants as why
use Rattle.judge.specs.declared.verdict.Verdict.{Verdict}
use Rattle.judge.specs.declared.verdict.Verdict.TheVariants as verdict
use Rattle.judge.specs.declared.fault.Fault.{Fault}
use Rattle.judge.specs.declared.report.Report.{Report}
use Rattle.judge.specs.declared.report.Report.TheVariants as report
use Rattle.cpfile.specs.declared.bad.CpWhy.{CpWhy}
use Rattle.cpfile.specs.declared.bad.CpWhy.TheVariants as cp
use Rattle.edits.specs.declared.refusal.EditBad.{EditBad}
use Rattle.edits.specs.declared.refusal.EditBad.TheVariants as edit
use Rattle.edits.specs.declared.refusal.PointKind.{PointKind}
use Rattle.edits.specs.declared.refusal.PointKind.TheVariants as point
use Rattle.dialogue.specs.declared.cause.Cause.{Cause}
use Rattle.dialogue.specs.declared.cause.Cause.TheVariants as cause
use Rattle.dialogue.specs.declared.reply.Reply.{Reply}
use Rattle.dialogue.specs.declared.reply.Reply.TheVariants as reply
use Rattle.commands.specs.Spelling.{mark_letter}
use Rattle.commands.specs.declared.bad.BadText.{BadText}
use Rattle.commands.specs.declared.bad.BadText.TheVariants as bad

-- the letter of what an edge lies on
abbrev pub kind_letter : EdgeKind → ℕ
kind_letter kind.B = 66
kind_letter kind.M = 77
kind_letter kind.V = 86
kind_letter kind.A = 65

abbrev pub vertex_line : ExactPoint → List ℕ
vertex_line v = codes "v " ++ point_text v ++ 10 ∷ []

-- the places of the two ends and the letter
abbrev pub edge_line : Edge → List ℕ
edge_line e = codes "e " ++ numeral e.from ++ 32 ∷ (numeral e.to ++ 32 ∷ kind_letter e.kind ∷ 10 ∷ [])

abbrev pub vertex_lines : List ExactPoint → List ℕ
vertex_lines = flat_map vertex_line

abbrev pub edge_lines : List Edge → List ℕ
edge_lines = flat_map edge_line

-- the first line of a subdivision: its rev, and how many vertices and edges there are
abbrev pub shown_line : ℕ → ℕ → ℕ → List ℕ
shown_line rev vs es = codes "shown " ++ numeral rev ++ 32 ∷ (numeral vs ++ 32 ∷ (numeral es ++ 10 ∷ []))

-- a subdivision: that line, and one for each vertex and each edge
abbrev pub shown_text : ℕ → List ExactPoint → List Edge → List ℕ
shown_text rev vs es = shown_line rev (length vs) (length es) ++ (vertex_lines vs ++ edge_lines es)

-- the words of a failure: the first, and the rest of its line
abbrev pub why_word : Why → List ℕ
why_word (why.Kawasaki even odd count) = codes "kawasaki"
why_word (why.Maekawa m v) = codes "maekawa"
why_word (why.Blocked run) = codes "blocked"

abbrev pub why_end : Why → List ℕ
why_end (why.Kawasaki even odd count) =
    codes "even " ++ (numeral even ++
    (codes " odd " ++ (numeral odd ++ (codes " rays " ++ (numeral count ++ 10 ∷ [])))))
why_end (why.Maekawa m v) = codes "mountains " ++ (numeral m ++ (codes " valleys " ++ (numeral v ++ 10 ∷ [])))
why_end (why.Blocked run) =
    codes "from " ++ (numeral run.from ++
    (codes " to " ++ (numeral run.to ++ (codes " angle " ++ (numeral run.angle
    ++ (codes " count " ++ (numeral run.count ++ 10 ∷ [])))))))

-- a vertex that does not fold flat
abbrev pub fault_head : Fault → List ℕ
fault_head f = codes "! " ++ (why_word f.why ++ 32 ∷ (point_text f.at ++ 32 ∷ []))

abbrev pub fault_line : Fault → List ℕ
fault_line f = fault_head f ++ why_end f.why

abbrev pub fault_lines : List Fault → List ℕ
fault_lines = flat_map fault_line

-- the number of each sector after a space
abbrev pub sector_text : ℕ → List ℕ
sector_text j = 32 ∷ numeral j

abbrev pub order_text : List ℕ → List ℕ
order_text = flat_map sector_text

-- a verdict after a space, up to the end of its line
abbrev pub verdict_end : Verdict → List ℕ
verdict_end verdict.Plain = codes " plain" ++ 10 ∷ []
verdict_end (verdict.Passed order) = codes " passed" ++ (order_text order ++ 10 ∷ [])
verdict_end (verdict.Fails w) = (32 ∷ (why_word w ++ 32 ∷ [])) ++ why_end w

-- the direction and the mark of each ray after a space
abbrev pub ray_text : Ray → List ℕ
ray_text ray = 32 ∷ (numeral ray.dir ++ mark_letter ray.mark ∷ [])

abbrev pub rays_text : List Ray → List ℕ
rays_text = flat_map ray_text

-- what is said of a vertex, up to the end of its line
abbrev pub report_end : Report → List ℕ
report_end report.Border = codes "border" ++ 10 ∷ []
report_end (report.Judged star v) = codes "rays" ++ (rays_text star ++ verdict_end v)

abbrev pub vertex_head : ExactPoint → List ℕ
vertex_head at = codes "vertex " ++ (point_text at ++ 32 ∷ [])

-- how many line feeds there are
abbrev pub line_count : List ℕ → ℕ
line_count bytes = count_by (λ b. b == 10) bytes

abbrev pub name_line : List ℕ → List ℕ
name_line name = name ++ 10 ∷ []

abbrev pub name_lines : List (List ℕ) → List ℕ
name_lines = flat_map name_line

-- a refusal, with its cause
abbrev pub refused_text : List ℕ → List ℕ
refused_text cause = codes "refused " ++ cause ++ 10 ∷ []

-- two ends with a space between them
abbrev pub ends_text : ExactSegment → List ℕ
ends_text s = point_text s.p ++ 32 ∷ point_text s.q

-- why a pattern is not cut
abbrev pub cut_word : CutBad → List ℕ
cut_word (cut.CrossRange s t) = codes "CrossRange "
cut_word cut.TooManyVertices = codes "TooManyVertices"

abbrev pub cut_rest : CutBad → List ℕ
cut_rest (cut.CrossRange s t) = ends_text s ++ 32 ∷ ends_text t
cut_rest cut.TooManyVertices = []

abbrev pub cut_cause : CutBad → List ℕ
cut_cause bad = cut_word bad ++ cut_rest bad

abbrev pub point_name : PointKind → List ℕ
point_name point.End = codes "end"
point_name point.Image = codes "image"
point_name point.Incentre = codes "incentre"
point_name point.Foot = codes "foot"

-- why an edit is refused: the name of the cause, and what belongs to it
abbrev pub edit_word : EditBad → List ℕ
edit_word edit.Outside = codes "Outside"
edit_word edit.SamePoint = codes "SamePoint"
edit_word edit.NotDirection = codes "NotDirection"
edit_word edit.OnBorder = codes "OnBorder"
edit_word edit.NoCrease = codes "NoCrease"
edit_word (edit.NoRay dir) = codes "NoRay "
edit_word edit.OddAngle = codes "OddAngle"
edit_word edit.AtBorder = codes "AtBorder"
edit_word edit.Covered = codes "Covered"
edit_word edit.NoMolecule = codes "NoMolecule"
edit_word (edit.Range which) = codes "Range "
edit_word edit.NoChange = codes "NoChange"
edit_word (edit.TooManyCreases count) = codes "TooManyCreases "

abbrev pub edit_rest : EditBad → List ℕ
edit_rest edit.Outside = []
edit_rest edit.SamePoint = []
edit_rest edit.NotDirection = []
edit_rest edit.OnBorder = []
edit_rest edit.NoCrease = []
edit_rest (edit.NoRay dir) = numeral dir
edit_rest edit.OddAngle = []
edit_rest edit.AtBorder = []
edit_rest edit.Covered = []
edit_rest edit.NoMolecule = []
edit_rest (edit.Range which) = point_name which
edit_rest edit.NoChange = []
edit_rest (edit.TooManyCreases count) = numeral count

-- why a CP text is refused: the name of the cause, and what belongs to it
abbrev pub cp_word : CpWhy → List ℕ
cp_word cp.TooLong = codes "TooLong line "
cp_word cp.Line = codes "Line line "
cp_word (cp.NoNear field) = codes "NoNear line "
cp_word (cp.TwoNear field first second) = codes "TwoNear line "
cp_word cp.NotDirection = codes "NotDirection line "
cp_word cp.InnerContour = codes "InnerContour line "

abbrev pub field_text : ℕ → ℕ → List ℕ
field_text line field = numeral line ++ (codes " field " ++ numeral field)

abbrev pub cp_rest : ℕ → CpWhy → List ℕ
cp_rest line cp.TooLong = numeral line
cp_rest line cp.Line = numeral line
cp_rest line (cp.NoNear field) = field_text line field
cp_rest line (cp.TwoNear field first second) =
    field_text line field ++ 32 ∷ (number_text first ++ 32 ∷ number_text second)
cp_rest line cp.NotDirection = numeral line
cp_rest line cp.InnerContour = numeral line

-- why a command is refused
abbrev pub cause_word : Cause → List ℕ
cause_word cause.NoProject = codes "NoProject"
cause_word cause.Exists = codes "Exists"
cause_word (cause.Cut bad) = cut_word bad
cause_word (cause.Stale rev) = codes "Stale "
cause_word cause.RevFull = codes "RevFull"
cause_word cause.NothingToUndo = codes "NothingToUndo"
cause_word cause.NothingToRedo = codes "NothingToRedo"
cause_word (cause.Cp bad) = cp_word bad.why
cause_word (cause.Edit bad) = edit_word bad
cause_word cause.NoVertex = codes "NoVertex"

abbrev pub cause_rest : Cause → List ℕ
cause_rest cause.NoProject = []
cause_rest cause.Exists = []
cause_rest (cause.Cut bad) = cut_rest bad
cause_rest (cause.Stale rev) = numeral rev
cause_rest cause.RevFull = []
cause_rest cause.NothingToUndo = []
cause_rest cause.NothingToRedo = []
cause_rest (cause.Cp bad) = cp_rest bad.line bad.why
cause_rest (cause.Edit bad) = edit_rest bad
cause_rest cause.NoVertex = []

abbrev pub cause_text : Cause → List ℕ
cause_text why = cause_word why ++ cause_rest why

-- a line of a word and two numbers
abbrev pub counted_line : List ℕ → ℕ → ℕ → List ℕ
counted_line word rev count = word ++ (32 ∷ (numeral rev ++ 32 ∷ (numeral count ++ 10 ∷ [])))

-- a line of a word and a number
abbrev pub numbered_line : List ℕ → ℕ → List ℕ
numbered_line word number = word ++ (32 ∷ (numeral number ++ 10 ∷ []))

-- a rev, how many lines are drawn, and how many are dropped
abbrev pub imported_line : ℕ → ℕ → ℕ → List ℕ
imported_line rev drawn dropped =
    codes "imported " ++ numeral rev ++ 32 ∷ (numeral drawn ++ 32 ∷ (numeral dropped ++ 10 ∷ []))

-- what is written for a reply
abbrev pub reply_text : Reply → List ℕ
reply_text (reply.Done rev) = numbered_line (codes "done") rev
reply_text (reply.Imported rev drawn dropped) = imported_line rev drawn dropped
reply_text (reply.Shown rev s) = shown_text rev s.vertices s.edges
reply_text (reply.Faults rev list) = counted_line (codes "faults") rev (length list) ++ fault_lines list
reply_text (reply.Vertex at r) = vertex_head at ++ report_end r
reply_text (reply.Text bytes) = numbered_line (codes "text") (line_count bytes) ++ bytes
reply_text (reply.Names names) = numbered_line (codes "names") (length names) ++ name_lines names
reply_text (reply.Refused why) = refused_text (cause_text why)
reply_text reply.KeeperFailed = codes "keeper-failed" ++ 10 ∷ []

-- a reply without the line that says how many lines a text has
abbrev pub body_text : Reply → List ℕ
body_text (reply.Done rev) = reply_text (reply.Done rev)
body_text (reply.Imported rev drawn dropped) = reply_text (reply.Imported rev drawn dropped)
body_text (reply.Shown rev s) = reply_text (reply.Shown rev s)
body_text (reply.Faults rev list) = reply_text (reply.Faults rev list)
body_text (reply.Vertex at r) = reply_text (reply.Vertex at r)
body_text (reply.Text bytes) = bytes
body_text (reply.Names names) = reply_text (reply.Names names)
body_text (reply.Refused why) = reply_text (reply.Refused why)
body_text reply.KeeperFailed = reply_text reply.KeeperFailed

-- what is written for a text that is no command
abbrev pub bad_text : BadText → List ℕ
bad_text (bad.Syntax column) = numbered_line (codes "syntax") column
bad_text (bad.Range column) = numbered_line (codes "range") column
