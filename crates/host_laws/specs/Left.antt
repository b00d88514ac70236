-- Bytes that calls left of a slice of zeros, and bytes of which every call answers 12. Assumes nothing.
use Rattle.std.specs.Prelude.{◌≡◌, List, ℕ, ◌≤◌, ◌<◌, length, get_or}
use Rattle.lists.specs.Entries.{◌∈◌}
use Rattle.card_records.specs.Written.{Bytes}
use Rattle.operations.specs.declared.Engine.{Engine}
use Rattle.operations.specs.declared.Move.{Move}
use Rattle.host_bytes.specs.Layout.{session_length}
use Rattle.host.specs.Calls.{host_move, host_history}
use Rattle.host.specs.Vectors.{host_vectors}
use Rattle.host_laws.specs.Following.{HostCall, bytes_after}

-- bytes that some calls left of a slice whose first `session_length` bytes were 0; many vectors in one call leave what single ones leave (`many_follow`)
pub record Left (b : List ℕ) : Type 0 where
  pub zeros : List ℕ
  pub room : session_length ≤ length zeros
  pub bytes : Bytes zeros
  pub empty : (i : ℕ) → i < session_length → get_or zeros i 0 ≡ 0
  pub calls : List HostCall
  pub given : (c : HostCall) → c ∈ calls → Bytes c.given
  pub leave : bytes_after zeros calls ≡ b

-- "no card": every call answers 12 and leaves all that it was lent as it was
pub record Unready (b : List ℕ) : Type 0 where
  pub moves : (how : Move) (v : List ℕ) → host_move how b v ≡ record { answer = 12; bytes = b }
  pub histories : (words befores flags : List ℕ)
      → host_history b words befores flags ≡ record { answer = 12; words = words; befores = befores; flags = flags }
  pub vectors : (engine : Engine) (vs room : List ℕ) → host_vectors engine b vs room ≡ record { answer = 12; bytes = b; words = room }
