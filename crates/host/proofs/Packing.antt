-- An answer as one number: 0 is its low byte where it is done, its own number where it is refused, and a count of at most 4,096 is whole in it.
-- Assumes nothing.
use mathlib.Core.Path.{◌≡◌, refl, ap}
use Prim.Native.Nat.{ℕ, ◌+◌, ◌*◌, ◌%◌, ◌≤◌}
use native.Mathlib.Omega.{arith}
use Rattle.std.specs.Result.{result_unwrap_or}
use Rattle.rule.specs.declared.Refusal.{Refusal}
use Rattle.rule.specs.Answers.{Answer}
use Rattle.std.specs.Prelude.{Ok, Err}
use Rattle.rule.specs.Numbers.{number_of, answer_number, answer_count}
use Rattle.host.specs.Calls.{packed}

-- the count that comes with an answer; with a refusal 0
pub counted : (a : Answer) → result_unwrap_or a 0 ≡ answer_count a
counted (Ok count) = refl
counted (Err why) = refl

pub done_0 : (count : ℕ) → packed (Ok count) % 256 ≡ 0
unfolding packed
done_0 count = omega arith

pub refused_number : (why : Refusal) → packed (Err why) ≡ number_of why
unfolding packed
refused_number why = omega arith

pub packed_few : (a : Answer) → answer_count a ≤ 4096 → packed a ≡ answer_number a + 256 * answer_count a
unfolding packed
packed_few a l = let e : answer_count a % 65536 ≡ answer_count a = omega arith in ap (λ k. answer_number a + 256 * k) e
