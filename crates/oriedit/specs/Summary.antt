-- The summary of a run of a generator, from the replies.
use Rattle.std.specs.Prelude.{ℕ, ◌+◌, ◌-◌, ◌==◌, List, ◌∷◌, [], ◌++◌, Option, Some, None, length, count_by}
use Rattle.std.specs.Prelude.{codes, decimal}
use Rattle.dialogue.specs.declared.reply.Reply.{Reply}
use Rattle.dialogue.specs.declared.reply.Reply.TheVariants as reply
use Rattle.oriedit.specs.Turns.{failures}
use Rattle.oriedit.specs.declared.summary.Sizes.{Sizes}
use Rattle.oriedit.specs.declared.tally.Tally.{Tally}

-- whether a change is done
abbrev pub done_count : Reply → ℕ
done_count (reply.Done rev) = 1
done_count (reply.Shown rev s) = 0
done_count (reply.Faults rev list) = 0
done_count (reply.Vertex at r) = 0
done_count (reply.Text bytes) = 0
done_count (reply.Names names) = 0
done_count (reply.Imported rev drawn dropped) = 0
done_count (reply.Refused why) = 0
done_count reply.KeeperFailed = 0

-- whether it is refused
abbrev pub refused_count : Reply → ℕ
refused_count (reply.Done rev) = 0
refused_count (reply.Shown rev s) = 0
refused_count (reply.Faults rev list) = 0
refused_count (reply.Vertex at r) = 0
refused_count (reply.Text bytes) = 0
refused_count (reply.Names names) = 0
refused_count (reply.Imported rev drawn dropped) = 0
refused_count (reply.Refused why) = 1
refused_count reply.KeeperFailed = 0

-- the faults that are listed
abbrev pub faults_told : Reply → Option ℕ
faults_told (reply.Done rev) = None
faults_told (reply.Shown rev s) = None
faults_told (reply.Faults rev list) = Some (length list)
faults_told (reply.Vertex at r) = None
faults_told (reply.Text bytes) = None
faults_told (reply.Names names) = None
faults_told (reply.Imported rev drawn dropped) = None
faults_told (reply.Refused why) = None
faults_told reply.KeeperFailed = None

-- the creases of a native text, which has a line for each behind its first
abbrev pub creases_told : Reply → Option ℕ
creases_told (reply.Done rev) = None
creases_told (reply.Shown rev s) = None
creases_told (reply.Faults rev list) = None
creases_told (reply.Vertex at r) = None
creases_told (reply.Text bytes) = Some (count_by (λ b. b == 10) bytes - 1)
creases_told (reply.Names names) = None
creases_told (reply.Imported rev drawn dropped) = None
creases_told (reply.Refused why) = None
creases_told reply.KeeperFailed = None

-- the vertices and the edges of a subdivision
abbrev pub sizes_told : Reply → Option Sizes
sizes_told (reply.Done rev) = None
sizes_told (reply.Shown rev s) = Some (record { vertices = length s.vertices; edges = length s.edges })
sizes_told (reply.Faults rev list) = None
sizes_told (reply.Vertex at r) = None
sizes_told (reply.Text bytes) = None
sizes_told (reply.Names names) = None
sizes_told (reply.Imported rev drawn dropped) = None
sizes_told (reply.Refused why) = None
sizes_told reply.KeeperFailed = None

-- a reply that lists no faults counts nothing
abbrev pub or_none : Option ℕ → ℕ
or_none None = 0
or_none (Some n) = n

abbrev pub seen_count : Reply → ℕ
seen_count r = or_none (faults_told r)

-- What the replies to the turns come to, and those to the questions between them.
abbrev pub nothing : Tally
nothing = record { done = 0; refused = 0; failed = 0; seen = 0 }

abbrev pub plus : Tally → Tally → Tally
plus t u = record {
  done = t.done + u.done;
  refused = t.refused + u.refused;
  failed = t.failed + u.failed;
  seen = t.seen + u.seen;
}

abbrev pub of_turn : Reply → Tally
of_turn r = record { done = done_count r; refused = refused_count r; failed = failures r; seen = 0 }

abbrev pub of_question : Reply → Tally
of_question r = record { done = 0; refused = 0; failed = 0; seen = seen_count r }

-- a word and a number, and a line of them
abbrev pub told : List ℕ → ℕ → List ℕ
told word n = word ++ decimal n

abbrev pub counted : List ℕ → ℕ → List ℕ
counted word n = told word n ++ 10 ∷ []

-- the first line
abbrev pub first_line : ℕ → ℕ → List ℕ
first_line seed count = told (codes "generate ") seed ++ counted (codes " ") count

-- the last line, by what the last three replies tell
abbrev pub final_line : Option ℕ → Option Sizes → Option ℕ → List ℕ
final_line None sizes faults = codes "final none\n"
final_line (Some c) None faults = codes "final none\n"
final_line (Some c) (Some s) None = codes "final none\n"
final_line (Some c) (Some s) (Some f) =
    told (codes "final creases ") c ++ (told (codes " vertices ") s.vertices
    ++ (told (codes " edges ") s.edges ++ counted (codes " faults ") f))

-- the whole summary
abbrev pub summary : ℕ → ℕ → Tally → List ℕ → List ℕ
summary seed count t final =
    first_line seed count ++ (counted (codes "done ") t.done ++ (counted (codes "refused ") t.refused
    ++ (counted (codes "keeper-failed ") t.failed ++ (counted (codes "faults-seen ") t.seen ++ final))))
