-- The states that byte 0 tells. Assumes nothing.
use mathlib.Core.Path.{◌≡◌, refl, ap, ◌∙◌}
use mathlib.Core.Bool.{Bool, true, false, cond}
use Prim.Native.Nat.{ℕ}
use lib.Dec.{eqb}
use borrow.Author.Tests.{eqb-true, eqb-false}
use Rattle.std.specs.Prelude.{Result, None, Some, Ok, Err}
use Rattle.std.specs.Result.{result_ok}
use Rattle.operations.specs.declared.Engine.{Engine}
use Rattle.operations.specs.declared.Engine.TheVariants.{Fields, Steps}
use Rattle.host_bytes.specs.declared.State.{State}
use Rattle.host_bytes.specs.declared.State.TheVariants.{Empty, Loaded, Rested, Fields as ByFields, Steps as BySteps}
use Rattle.host_bytes.specs.declared.NoState.{NoState}
use Rattle.host_bytes.specs.Inner.States.{byte_of, state_of, moved_state}
use Rattle.host_bytes.specs.Kept.{mark_of}

-- the byte that says by which engine a card was moved is the engine's mark
pub marked : (engine : Engine) → byte_of (moved_state engine) ≡ mark_of engine
marked Fields = refl
marked Steps = refl

module _ (byte : ℕ) where
  abbrev told : Bool → Bool → Bool → Bool → Bool → Result State NoState
  told x y z w v = cond x (Ok Empty) (cond y (Ok Loaded) (cond z (Ok Rested) (cond w (Ok ByFields) (cond v (Ok BySteps) (Err (record {}))))))

  -- a byte that tells a state is that state's
  pub tells : (state : State) → result_ok (state_of byte) ≡ Some state → byte ≡ byte_of state
  tells state d = go (eqb byte 0) refl (eqb byte 1) refl (eqb byte 2) refl (eqb byte 3) refl (eqb byte 4) refl d
    where
      go : (x : Bool) → eqb byte 0 ≡ x → (y : Bool) → eqb byte 1 ≡ y → (z : Bool) → eqb byte 2 ≡ z → (w : Bool) → eqb byte 3 ≡ w → (v : Bool) → eqb byte 4 ≡ v
          → result_ok (told x y z w v) ≡ Some state → byte ≡ byte_of state
      go true e y _ z _ w _ v _ d = let q : Empty ≡ state = cc in eqb-true byte 0 e ∙ ap byte_of q
      go false _ true e z _ w _ v _ d = let q : Loaded ≡ state = cc in eqb-true byte 1 e ∙ ap byte_of q
      go false _ false _ true e w _ v _ d = let q : Rested ≡ state = cc in eqb-true byte 2 e ∙ ap byte_of q
      go false _ false _ false _ true e v _ d = let q : ByFields ≡ state = cc in eqb-true byte 3 e ∙ ap byte_of q
      go false _ false _ false _ false _ true e d = let q : BySteps ≡ state = cc in eqb-true byte 4 e ∙ ap byte_of q
      go false _ false _ false _ false _ false _ d = cc

  -- and one that tells none is no state's
  pub tells_none : result_ok (state_of byte) ≡ None → ¬ (byte ≡ 0) × ¬ (byte ≡ 1) × ¬ (byte ≡ 2) × ¬ (byte ≡ 3) × ¬ (byte ≡ 4)
  tells_none d = go (eqb byte 0) refl (eqb byte 1) refl (eqb byte 2) refl (eqb byte 3) refl (eqb byte 4) refl d
    where
      go : (x : Bool) → eqb byte 0 ≡ x → (y : Bool) → eqb byte 1 ≡ y → (z : Bool) → eqb byte 2 ≡ z → (w : Bool) → eqb byte 3 ≡ w → (v : Bool) → eqb byte 4 ≡ v
          → result_ok (told x y z w v) ≡ None → ¬ (byte ≡ 0) × ¬ (byte ≡ 1) × ¬ (byte ≡ 2) × ¬ (byte ≡ 3) × ¬ (byte ≡ 4)
      go true e y _ z _ w _ v _ d = cc
      go false _ true e z _ w _ v _ d = cc
      go false _ false _ true e w _ v _ d = cc
      go false _ false _ false _ true e v _ d = cc
      go false _ false _ false _ false _ true e d = cc
      go false a false b false c false d false e _ = (eqb-false byte 0 a, eqb-false byte 1 b, eqb-false byte 2 c, eqb-false byte 3 d, eqb-false byte 4 e)
