-- A run of blocks from any block on, in the middle of a plan: each block that it does holds its prediction from what is left plus its
-- residual. Over any planes and any prediction that looks at earlier blocks alone (walk's Replay). Rests on the laws of units.
use Rattle.std.specs.Prelude.{◌≡◌}
use Rattle.std.proofs.Common.{sym, ap, ◌∙◌, subst, arith}
use Prim.Native.Nat.{ℕ, zero, suc, ◌+◌, ◌-◌, ◌≤◌, ◌<◌}
use Rattle.laws.specs.Chain.{units, units_add}
use Rattle.walk.specs.lossless.Replay.{units_kept, Replays, Sourced, Walks}

-- k units from unit d on, by way of unit i
cut : {W : Type 0} (unit : ℕ → W → W) (d k i : ℕ) (w : W) → d ≤ i → i < d + k
    → units unit d k w ≡ units unit (suc i) (d + k - suc i) (unit i (units unit d (i - d) w))
unfolding units
cut unit d k i w a b =
    let n = d + k - suc i in
    let all : k ≡ i - d + suc n = omega arith in
    let from : d + (i - d) ≡ i = omega arith in
    ap (λ m. units unit d m w) all ∙ units_add unit d (i - d) (suc n) w ∙ ap (λ m. units unit m (suc n) (units unit d (i - d) w)) from

module _ {Plane Data Place R : Type 0} {Ok : Plane → Type 0} {look : Plane → Place → ℕ} {read : Data → ℕ → Place → R} {count : ℕ}
    {Of : ℕ → Place → Type 0}
    {predict : ℕ → Plane → Place → ℕ} {add : ℕ → R → ℕ} {rebuild : ℕ → Data → Plane → Plane}
    (f : Replays Ok look read count Of predict add rebuild)
  where
    module _ (v : Data) where
      replayed_ok : (d k : ℕ) (w : Plane) → Ok w → Ok (units (λ i. rebuild i v) d k w)
      unfolding units
      replayed_ok d zero w h = h
      replayed_ok d (suc k) w h = replayed_ok (suc d) k (rebuild d v w) (f.rebuild_ok d v w h)

      pub replay_settled : (d k : ℕ) (w : Plane) → d + k ≤ count → Ok w → (i : ℕ) (t : Place) → d ≤ i → i < d + k → Of i t
          → let y = units (λ i. rebuild i v) d k w in look y t ≡ add (predict i y t) (read v i t)
      replay_settled d k w few ok i t a b o =
          let y = units (λ i. rebuild i v) d k w in
          let u = units (λ i. rebuild i v) d (i - d) w in
          let later : (m : ℕ) (p : Place) → m ≤ i → Of m p → look y p ≡ look (rebuild i v u) p = λ m p l q.
          ap (λ (x : Plane). look x p) (cut (λ i. rebuild i v) d k i w a b)
          ∙ units_kept (λ i. rebuild i v) (λ (x : Plane). look x p) (suc i) (d + k - suc i) (rebuild i v u)
          (λ n x g h. f.rebuild_out n v x (omega arith) p (f.apart m n p (omega arith) (omega arith) q)) in
          let earlier : (m : ℕ) (p : Place) → m < i → Of m p → look u p ≡ look y p = λ m p l q.
          sym (later m p (omega arith) q ∙ f.rebuild_out i v u (omega arith) p (f.apart m i p l (omega arith) q)) in
          later i t (omega arith) o ∙ f.rebuild_in i v u (omega arith) (replayed_ok d (i - d) w ok) t o
          ∙ ap (λ (p : ℕ). add p (read v i t))
          (f.local i u y (omega arith) (replayed_ok d (i - d) w ok) (replayed_ok d k w ok) earlier t o)

    module _ {sub : ℕ → ℕ → R} {source : Plane} (g : Sourced Ok look add sub source) {W : Type 0} {Long : Data → Type 0}
        {store : ℕ → Plane → Data → Data}
        {work : W → Plane} {resid : W → Data} {unit : ℕ → W → W}
        (h : Walks Ok look read count Of predict sub source rebuild Long store work resid unit)
      where
        walked_ok : (d k : ℕ) (x : W) → Ok (work x) → Long (resid x) → Ok (work (units unit d k x)) × Long (resid (units unit d k x))
        unfolding units
        walked_ok d zero x a b = (a, b)
        walked_ok d (suc k) x a b =
            walked_ok (suc d) k (unit d x) (subst Ok (sym (h.unit_work d x)) (f.rebuild_ok d _ (work x) a))
            (subst Long (sym (h.unit_resid d x)) (h.store_ok d (work x) (resid x) b))

        pub walk_settled : (d k : ℕ) (x : W) → d + k ≤ count → Ok (work x) → Long (resid x) → (i : ℕ) (t : Place) → d ≤ i → i < d + k
            → Of i t
            → let y = units unit d k x in (look (work y) t ≡ look source t)
            × (read (resid y) i t ≡ sub (look source t) (predict i (work y) t))
        walk_settled d k x few ok long i t a b o =
            let y = units unit d k x in
            let u = units unit d (i - d) x in
            let v = store i (work u) (resid u) in
            let whole = walked_ok d (i - d) x ok long in
            let left = cut unit d k i x a b in
            -- unit n touches no sample of an earlier block
            let out : (n : ℕ) (z : W) (m : ℕ) (p : Place) → m < n → n < count → Of m p
            → look (work (unit n z)) p ≡ look (work z) p = λ n z m p l c q.
            ap (λ (s : Plane). look s p) (h.unit_work n z) ∙ f.rebuild_out n _ (work z) c p (f.apart m n p l c q) in
            let later : (m : ℕ) (p : Place) → m ≤ i → Of m p → look (work y) p ≡ look (work (unit i u)) p = λ m p l q.
            ap (λ (z : W). look (work z) p) left
            ∙ units_kept unit (λ (z : W). look (work z) p) (suc i) (d + k - suc i) (unit i u)
            (λ n z e e'. out n z m p (omega arith) (omega arith) q) in
            let earlier : (m : ℕ) (p : Place) → m < i → Of m p → look (work u) p
            ≡ look (work y) p = λ m p l q. sym (later m p (omega arith) q ∙ out i u m p l (omega arith) q) in
            let same = f.local i (work u) (work y) (omega arith) whole.0 (walked_ok d k x ok long).0 earlier t o in
            let new = h.store_in i (work u) (resid u) (omega arith) whole.0 whole.1 t o in (
              later i t (omega arith) o ∙ ap (λ (s : Plane). look s t) (h.unit_work i u)
                  ∙ f.rebuild_in i v (work u) (omega arith) whole.0 t o
                  ∙ ap (add (predict i (work u) t)) new ∙ g.back t (predict i (work u) t),
              ap (λ (z : W). read (resid z) i t) left
                  ∙ units_kept unit (λ (z : W). read (resid z) i t) (suc i) (d + k - suc i) (unit i u)
                  (λ n z e e'. ap (λ (s : Data). read s i t) (h.unit_resid n z)
                  ∙ h.store_out n (work z) (resid z) (omega arith) i t (λ c. omega (arith, c)) o)
                  ∙ ap (λ (s : Data). read s i t) (h.unit_resid i u) ∙ new ∙ ap (sub (look source t)) same,
            )
