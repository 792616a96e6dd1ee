-- What a call left as it was, where an object is source and sink at once.
use Rattle.std.proofs.Common.{◌≡◌, ℕ, List, Option, None, sym, ap, ◌∙◌}
use Rattle.ports.specs.Streams.{Aside, Alone, Beside}

abbrev faults_of : Aside → ℕ
faults_of Alone = 0
faults_of (Beside n bytes) = n

abbrev bytes_of : Aside → Option (List ℕ)
bytes_of Alone = None
bytes_of (Beside n bytes) = bytes

-- a call that left the aside as it was left the count and the bytes of the other side as they were
pub same_beside : {m n : ℕ} {a b : Option (List ℕ)} {old new : Aside} → new ≡ old → old ≡ Beside m a → new ≡ Beside n b → (n ≡ m) × (b ≡ a)
same_beside stays before after =
    let same : Beside _ _ ≡ Beside _ _ = sym after ∙ (stays ∙ before) in
    (ap faults_of same, ap bytes_of same)
