-- The head of an answer (RFC 9112, sections 4 and 5).
use Rattle.std.specs.Prelude.{ℕ, List, [], ◌++◌, Bool, Option, Some, None, codes, decimal, unwrap_or}
use Rattle.std.specs.Prelude.{if◌then◌else◌}
use Rattle.http.specs.StatusCode.{reason_phrase}

abbrev pub phrase : ℕ → List ℕ
phrase status = unwrap_or (reason_phrase status) []

abbrev pub status_line : ℕ → List ℕ
status_line status = codes "HTTP/1.1 " ++ (decimal status ++ (codes " " ++ (phrase status ++ codes "\r\n")))

abbrev pub media_type : Bool → List ℕ
media_type json = if json then codes "application/json" else codes "text/plain"

-- the methods that the path has, where they are told
abbrev pub allow_line : Option (List ℕ) → List ℕ
allow_line None = []
allow_line (Some methods) = codes "Allow: " ++ (methods ++ codes "\r\n")

abbrev pub fields_before : Bool → ℕ → List ℕ
fields_before json len =
    codes "Content-Type: "
    ++ (media_type json ++ (codes "\r\nContent-Length: " ++ (decimal len ++ codes "\r\n")))

-- all lines of the head, and the empty line that ends it; a body of so many bytes follows
abbrev pub head_text : ℕ → Bool → ℕ → Option (List ℕ) → List ℕ
head_text status json len allow =
    (status_line status ++ fields_before json len) ++ (allow_line allow ++ codes "Connection: close\r\n\r\n")
