-- The doors take turns: what the page Lenses says of their contracts, each of which is a turn's as it stands. Assumes nothing.
use Rattle.std.specs.Prelude.{refl}
use contract.Monad.{fact_mono}
use Rattle.promises.specs.lenses.Lenses.{scratch_of, LensGave, LensDoors}

pub lens_doors : LensDoors
unfolding LensGave
lens_doors = record {
  turn_walk_numbers = λ κs stills l self rows cols sides modes source work residuals refs indices fractions grant other r e p.
      (_, (p.0, (p.1.0, λ n. let q = p.1.1 n in λ i. scratch_of (q.0 i) (q.1.0 i) (q.1.1 i))), refl);
  turn_replay_numbers = λ κs stills l self rows cols sides modes residuals plane refs indices fractions grant source work other r e p.
      (_, (p.0, (p.1.0, λ n. let q = p.1.1 n in λ i. scratch_of (q.0 i) (q.1.0 i) (q.1.1 i))), refl);
  turn_walk = λ {𝓤 = 𝓤} 𝓛 mem run κs stills l self plan source work residuals scratch grant other r e. fact_mono 𝓤 _ _ (λ p. (_, p, refl));
  turn_replay = λ {𝓤 = 𝓤} 𝓛 mem run κs stills l self plan residuals plane scratch grant source work other r e. fact_mono 𝓤 _ _
      (λ p. (_, p, refl));
}
