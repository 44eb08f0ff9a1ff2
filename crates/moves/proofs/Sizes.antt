-- A load or a store of each size has a code of its own.
use Rattle.std.proofs.Common.{◌≡◌, ℕ, ◌+◌, take, drop, Some, refl}
use Rattle.codes.proofs.Tables.{further_on}
use Rattle.moves.specs.Moves.{codes, decoded_move, loading, storing}
use Rattle.moves.specs.Parts.{sizes}
use Rattle.moves.specs.Selectors.{decoded_reach}
use Rattle.moves.specs.declared.moving.Move.TheVariants.{Load, Store}
use Rattle.moves.specs.declared.parts.Size.{Size}
use Rattle.moves.specs.declared.selectors.Reach.{Reach}
use Rattle.std.specs.List.{slice_get}

module _ (n selector : ℕ) (size : Size) (reach : Reach) (named : slice_get sizes n ≡ Some size) (back : decoded_reach selector ≡ Some reach) where
  pub load_back : decoded_move (2 + n) selector 0 ≡ Some (Load size reach)
  load_back =
      let here : slice_get codes (2 + n) ≡ Some (loading size) = further_on loading sizes n size named (take 2 codes) (drop 6 codes) (2 + n) refl in
      simp (here, back)

  pub store_back : decoded_move (6 + n) selector 0 ≡ Some (Store size reach)
  store_back =
      let here : slice_get codes (6 + n) ≡ Some (storing size) = further_on storing sizes n size named (take 6 codes) (drop 10 codes) (6 + n) refl in
      simp (here, back)
