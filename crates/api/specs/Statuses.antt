-- The statuses of answers (RFC 9110, section 15), and the texts of those that refuse a request.
use Rattle.std.specs.Prelude.{ℕ, List, [], ◌∷◌, Contains, codes}
use Rattle.api.specs.declared.bad.BadWhy.{BadWhy}
use Rattle.api.specs.declared.bad.BadWhy.TheVariants as why

-- the statuses that an answer may have
abbrev pub statuses : List ℕ
statuses = 200 ∷ 201 ∷ 400 ∷ 404 ∷ 405 ∷ 409 ∷ 411 ∷ 413 ∷ 422 ∷ 431 ∷ 501 ∷ 503 ∷ 507 ∷ []

abbrev pub IsStatus : ℕ → Type 0
IsStatus status = Contains statuses status

-- the status of a refused request
abbrev pub status_of : BadWhy → ℕ
status_of why.Head = 400
status_of why.HeadSize = 431
status_of why.Coding = 501
status_of why.Length = 400
status_of why.Route = 404
status_of why.Method = 405
status_of why.Name = 400
status_of why.NoLength = 411
status_of why.BodySize = 413
status_of why.Short = 400
status_of why.Body = 400

-- the body of the answer to it
abbrev pub bad_text : BadWhy → List ℕ
bad_text why.Head = codes "bad head\n"
bad_text why.HeadSize = codes "bad head-size\n"
bad_text why.Coding = codes "bad coding\n"
bad_text why.Length = codes "bad length\n"
bad_text why.Route = codes "bad route\n"
bad_text why.Method = codes "bad method\n"
bad_text why.Name = codes "bad name\n"
bad_text why.NoLength = codes "bad no-length\n"
bad_text why.BodySize = codes "bad body-size\n"
bad_text why.Short = codes "bad short\n"
bad_text why.Body = codes "bad body\n"
