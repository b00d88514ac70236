-- The words of many vectors: each vector's stay where they were put, and the room past them all stays. Assumes nothing.
use mathlib.Core.Path.{◌≡◌, refl, sym, ap, subst, ◌∙◌}
use mathlib.Core.List.{List}
use mathlib.Core.Logic.{inl, inr}
use Prim.Native.Nat.{ℕ, zero, suc, ◌+◌, ◌-◌, ◌*◌, ◌≤◌, ◌<◌}
use native.Mathlib.Nat.{le_of_eq}
use native.Mathlib.Omega.{arith}
use native.Mathlib.Decide.{dec_lt}
use lib.ListN.{length, get_or, get_or-eq_default}
use Rattle.lists.proofs.Places.{turn_fits, area_in, area_out}
use Rattle.card.specs.declared.Session.{Session}
use Rattle.operations.specs.declared.Engine.{Engine}
use Rattle.host_many.specs.Many.{many_by}
use Rattle.host_many.proofs.Many.{many_length}

module _ (engine : Engine) (s : Session) (vs : List ℕ) (n : ℕ) (room : List ℕ) where
  -- the words of vector j stay where they were put, whatever vectors come after it
  pub run_words : (k : ℕ) → k * s.nets ≤ length room → (j m : ℕ) → j < k → m < s.nets
      → get_or (many_by engine s vs n k room).words (j * s.nets + m) 0 ≡ get_or (many_by engine s vs n (suc j) room).session.words m 0
  unfolding many_by
  run_words zero f j m l u = absurd (omega arith)
  run_words (suc k) f j m l u = go (λ b. run_words k (omega (arith, now)) j m b u) (dec_lt j k)
    where
      now : k * s.nets + s.nets ≤ length room
      now = turn_fits k (suc k) s.nets (length room) (omega arith) f

      so_far : List ℕ
      so_far = (many_by engine s vs n k room).words

      next : List ℕ
      next = (many_by engine s vs n (suc k) room).session.words

      long : length so_far ≡ length room
      long = many_length engine s vs n k room

      go : (j < k → get_or so_far (j * s.nets + m) 0 ≡ get_or (many_by engine s vs n (suc j) room).session.words m 0) → Dec (j < k)
          → get_or (many_by engine s vs n (suc k) room).words (j * s.nets + m) 0 ≡ get_or (many_by engine s vs n (suc j) room).session.words m 0
      go ih (yes b) =
          let ahead : j * s.nets + s.nets ≤ k * s.nets = turn_fits j k s.nets (k * s.nets) b (le_of_eq refl) in
          area_out so_far (k * s.nets) (k * s.nets + s.nets) next (j * s.nets + m) (inl (omega (arith, ahead, u))) (omega (arith, ahead, u, now, long))
          ∙ ih b
      go ih (no b) =
          let q : k ≡ j = omega arith in
          let e : k * s.nets + m - k * s.nets ≡ m = omega arith in
          subst (λ i. get_or (many_by engine s vs n (suc k) room).words (i * s.nets + m) 0 ≡ get_or (many_by engine s vs n (suc i) room).session.words m 0) q
          (area_in so_far (k * s.nets) (k * s.nets + s.nets) next (k * s.nets + m) (omega (arith, now, long)) (omega arith) (omega (arith, u))
          ∙ ap (λ i. get_or next i 0) e)

  -- the room past the words of all vectors stays
  pub run_past : (k i : ℕ) → k * s.nets ≤ i → get_or (many_by engine s vs n k room).words i 0 ≡ get_or room i 0
  unfolding many_by
  run_past zero i f = refl
  run_past (suc k) i f = go (run_past k i (omega (arith, past))) (dec_lt i (length room))
    where
      past : k * s.nets + s.nets ≤ i
      past = turn_fits k (suc k) s.nets i (omega arith) f

      so_far : List ℕ
      so_far = (many_by engine s vs n k room).words

      next : List ℕ
      next = (many_by engine s vs n (suc k) room).session.words

      go : get_or so_far i 0 ≡ get_or room i 0 → Dec (i < length room) → get_or (many_by engine s vs n (suc k) room).words i 0 ≡ get_or room i 0
      go ih (yes l) = area_out so_far (k * s.nets) (k * s.nets + s.nets) next i (inr past) (omega (arith, many_length engine s vs n k room, l)) ∙ ih
      go ih (no l) =
          get_or-eq_default (many_by engine s vs n (suc k) room).words 0 {n = i} (omega (arith, many_length engine s vs n (suc k) room, l))
          ∙ sym (get_or-eq_default room 0 {n = i} (omega arith))
