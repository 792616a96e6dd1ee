-- What the bytes of a request say. Whether they are a head, can begin one or cannot is decided by the
-- grammar of `httparse` (RFC 9112, sections 2 to 5).
use Rattle.std.specs.Prelude.{◌≡◌, ℕ, ◌<◌, ◌≤◌, ◌⊎◌, List, take, length, map}
use Rattle.httparse.specs.Grammar.{RequestHead, print_request, ReadsRequest, HasNoRequest, NeverHasRequest}
use Rattle.httparse.specs.Grammar.{MayBecomeRequest}
use Rattle.httparse.specs.Spans.{name_and_value}
use Rattle.routes.specs.Targets.{IsTarget}

-- a head has at most so many bytes
abbrev pub head_limit : ℕ
head_limit = 16384

-- and so many fields
abbrev pub field_limit : ℕ
field_limit = 64

-- A request: its method, the path and the query of its target, the name and the value of each field, and
-- all bytes behind its head.
pub record Request : Type 0 where
  pub method : List ℕ
  pub path : List ℕ
  pub query : List ℕ
  pub fields : List (List ℕ × List ℕ)
  pub behind : List ℕ

-- the bytes begin with a whole head within the limits, and say this
pub record Says (bytes : List ℕ) (r : Request) : Type 0 where
  pub head : RequestHead
  pub reads : ReadsRequest bytes head r.behind
  pub short : length (print_request head) ≤ head_limit
  pub few : length head.fields ≤ field_limit
  pub method : r.method ≡ head.method
  pub target : IsTarget head.target r.path r.query
  pub fields : r.fields ≡ map name_and_value head.fields

-- a head has to stand in these bytes whole
abbrev pub front : List ℕ → List ℕ
front bytes = take head_limit bytes

-- no bytes can follow that make a front of these a head, or the bytes end before they hold one
abbrev pub IsBroken : List ℕ → Type 0
IsBroken bytes = NeverHasRequest (front bytes) ⊎ (HasNoRequest bytes × (length bytes < head_limit))

-- So many bytes begin a head and hold none whole. Inside the target of the request line the grammar leaves
-- open whether they begin one.
pub record IsEndless (bytes : List ℕ) : Type 0 where
  pub long : head_limit ≤ length bytes
  pub none : HasNoRequest (front bytes)
  pub begins : MayBecomeRequest (front bytes)

-- the bytes hold a whole head, with too many fields
pub record IsCrowded (bytes : List ℕ) : Type 0 where
  pub head : RequestHead
  pub behind : List ℕ
  pub reads : ReadsRequest bytes head behind
  pub short : length (print_request head) ≤ head_limit
  pub many : field_limit < length head.fields
