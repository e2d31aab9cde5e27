-- The order of reals: what is brought into a range, and that IEEE equality goes with `≤`. Assumes nothing.
use Rattle.std.proofs.Common.{◌≡◌, ℕ, ◌*◌, Bool, true, false, cond, not, T, eqb, ◌⊎◌, sym, refl, inl, inr, arith, eqb→eq}
use lib.Dec.{not_T}
use lib.Ieee.{Float, nan, inf, fin, up, down, level, lt, eq, le, is_nan, of_bits}
use lib.Ieee.Bits.{is_true}
use lib.Ieee.Fits.{and_l, and_r, and_i, eq→eqb}
use Rattle.std.specs.Float.{float_is_finite}
use Rattle.std.proofs.lemmas.Bool.{or_cases, or_right}
use Rattle.std.specs.Bool.{passes}
use Rattle.std.specs.Float.Order.{le_of_lt, lt_of_not-le, le_of_not-lt, le_left, le_right, lt_irrefl, le_refl, le_trans, lt_of_lt_of_le, lt_of_le_of_lt}
use Rattle.reals.proofs.Units.{iff}
use Rattle.reals.specs.Numbers.{zero, hundred}
use Rattle.reals.specs.Reals.{brought, inside, Within}
use Rattle.reals.specs.Laws.{TotalOrder, Equality, Brought}

-- a test of a range, as two comparisons
pub range : (low high x : Float) → T (inside low high x) → Within x low high
unfolding inside
range low high x t = (and_l (le low x) _ t, and_r (le low x) _ t)

-- ---- what is brought into a range

bring_by : (P : Float → Type 0) (x a b : Float) → T (not (is_nan x)) → T (le a b) → (T (lt x a) → P a) → (T (lt b x) → P b) → (T (le a x) → T (le x b) → P x) → P (brought x a b)
bring_by P x a b n o pa pb px = go (lt x a) (lt b x) pa pb (le_of_not-lt x a n (le_left a b o)) (le_of_not-lt b x (le_right a b o) n)
  where
    go : (p q : Bool) → (T p → P a) → (T q → P b) → (T (not p) → T (le a x)) → (T (not q) → T (le x b)) → P (cond p a (cond q b x))
    go true q u v f g = u tt
    go false true u v f g = v tt
    go false false u v f g = px (f tt) (g tt)

pub bring_low : (x a b : Float) → T (not (is_nan x)) → T (le a b) → T (le a (brought x a b))
bring_low x a b n o = bring_by (λ r. T (le a r)) x a b n o (λ _. le_refl a (le_left a b o)) (λ _. o) (λ p q. p)

pub bring_high : (x a b : Float) → T (not (is_nan x)) → T (le a b) → T (le (brought x a b) b)
bring_high x a b n o = bring_by (λ r. T (le r b)) x a b n o (λ _. o) (λ _. le_refl b (le_right a b o)) (λ p q. q)

pub bring_in : (x a b : Float) → T (not (is_nan x)) → T (le a b) → Within (brought x a b) a b
bring_in x a b n o = (bring_low x a b n o, bring_high x a b n o)

zero_hundred : T (le zero hundred)
zero_hundred = unfold le in unfold of_bits in tt

pub percent_in : (x : Float) → T (not (is_nan x)) → Within (brought x zero hundred) zero hundred
percent_in x n = bring_in x zero hundred n zero_hundred

-- a bound below y and v stays below what y is brought to, where v is at most h; a bound above them stays above it, where v is at least l
pub bring_keeps_low : (low y v l h : Float) → T (le low y) → T (le low v) → T (le v h) → T (not (is_nan y)) → T (le l h) → T (le low (brought y l h))
bring_keeps_low low y v l h a b c n o = bring_by (λ r. T (le low r)) y l h n o (λ p. le_trans low y l a (le_of_lt y l p)) (λ _. le_trans low v h b c) (λ _ _. a)

pub bring_keeps_high : (high y v l h : Float) → T (le y high) → T (le v high) → T (le l v) → T (not (is_nan y)) → T (le l h) → T (le (brought y l h) high)
bring_keeps_high high y v l h a b c n o = bring_by (λ r. T (le r high)) y l h n o (λ _. le_trans l v high c b) (λ p. le_trans h y high (le_of_lt h y p) a) (λ _ _. a)

not_lt : (x y : Float) → T (le x y) → T (not (lt y x))
not_lt x y h = not_T (lt y x) (λ k. lt_irrefl x (lt_of_le_of_lt x y x h k))

pub bring_same : (x a b : Float) → T (le a x) → T (le x b) → brought x a b ≡ x
bring_same x a b h k = go (lt x a) (lt b x) (not_lt a x h) (not_lt x b k)
  where
    go : (p q : Bool) → T (not p) → T (not q) → cond p a (cond q b x) ≡ x
    go true q f g = absurd f
    go false true f g = absurd g
    go false false f g = refl

pub finite_between : (x a b : Float) → T (float_is_finite a) → T (float_is_finite b) → T (le a x) → T (le x b) → T (float_is_finite x)
unfolding float_is_finite le
finite_between nan nan b p q h k = absurd p
finite_between nan (inf s) b p q h k = absurd p
finite_between nan (fin s m e) b p q h k = absurd h
finite_between (inf t) nan b p q h k = absurd p
finite_between (inf t) (inf s) b p q h k = absurd p
finite_between (inf t) (fin s m e) nan p q h k = absurd q
finite_between (inf t) (fin s m e) (inf u) p q h k = absurd q
finite_between (inf true) (fin s m e) (fin u n d) p q h k = h
finite_between (inf false) (fin s m e) (fin u n d) p q h k = k
finite_between (fin t j g) a b p q h k = tt

pub finite_number : (x : Float) → T (float_is_finite x) → T (not (is_nan x))
unfolding float_is_finite is_nan
finite_number nan p = absurd p
finite_number (inf s) p = absurd p
finite_number (fin s m e) p = tt

-- ---- IEEE equality

level_sym : (s : Bool) (a : ℕ) (t : Bool) (b : ℕ) → T (level s a t b) → T (level t b s a)
level_sym true a true b h = and_i (eqb b a) true (eq→eqb (sym (eqb→eq a b (and_l (eqb a b) true h)))) tt
level_sym false a false b h = and_i (eqb b a) true (eq→eqb (sym (eqb→eq a b (and_l (eqb a b) true h)))) tt
level_sym true a false b h = let e = eqb→eq a b (and_l (eqb a b) (eqb a 0) h) in let z = eqb→eq a 0 (and_r (eqb a b) (eqb a 0) h) in and_i (eqb b a) (eqb b 0) (eq→eqb (omega arith)) (eq→eqb (omega arith))
level_sym false a true b h = let e = eqb→eq a b (and_l (eqb a b) (eqb a 0) h) in let z = eqb→eq a 0 (and_r (eqb a b) (eqb a 0) h) in and_i (eqb b a) (eqb b 0) (eq→eqb (omega arith)) (eq→eqb (omega arith))

pub eq_sym : (x y : Float) → T (eq x y) → T (eq y x)
unfolding eq
eq_sym nan y h = absurd h
eq_sym (inf s) nan h = absurd h
eq_sym (inf true) (inf true) h = tt
eq_sym (inf true) (inf false) h = absurd h
eq_sym (inf false) (inf true) h = absurd h
eq_sym (inf false) (inf false) h = tt
eq_sym (inf s) (fin t n d) h = absurd h
eq_sym (fin s m e) nan h = absurd h
eq_sym (fin s m e) (inf t) h = absurd h
eq_sym (fin s m e) (fin t n d) h = level_sym s (m * up e * down d) t (n * up d * down e) h

pub le_of_eq : (x y : Float) → T (eq x y) → T (le x y)
unfolding le
le_of_eq x y h = passes _ (or_right (lt x y) (eq x y) (is_true (eq x y) h))

pub ge_of_eq : (x y : Float) → T (eq x y) → T (le y x)
ge_of_eq x y h = le_of_eq y x (eq_sym x y h)

pub le_antisym : (x y : Float) → T (le x y) → T (le y x) → T (eq x y)
unfolding le
le_antisym x y h k = elim (or_cases (lt x y) (eq x y) (is_true _ h)) [ inl l ↦ absurd (lt_irrefl x (lt_of_lt_of_le x y x (passes _ l) k)) | inr e ↦ passes _ e ]

pub eq_refl : (x : Float) → T (not (is_nan x)) → T (eq x x)
eq_refl x n = le_antisym x x (le_refl x n) (le_refl x n)

pub eq_trans : (x y z : Float) → T (eq x y) → T (eq y z) → T (eq x z)
eq_trans x y z h k = le_antisym x z (le_trans x y z (le_of_eq x y h) (le_of_eq y z k)) (le_trans z y x (ge_of_eq y z k) (ge_of_eq x y h))

pub eq_le : (x y z : Float) → T (eq x y) → T (le y z) → T (le x z)
eq_le x y z h k = le_trans x y z (le_of_eq x y h) k

pub le_eq : (x y z : Float) → T (le x y) → T (eq y z) → T (le x z)
le_eq x y z h k = le_trans x y z h (le_of_eq y z k)

-- equal reals brought into a range are equal
pub bring_equal : (x y l h : Float) → T (eq x y) → T (le l h) → T (eq (brought x l h) (brought y l h))
bring_equal x y l h e o =
    let a : lt x l ≡ lt y l = iff (lt x l) (lt y l) (lt_of_le_of_lt y x l (ge_of_eq x y e)) (lt_of_le_of_lt x y l (le_of_eq x y e)) in
    let b : lt h x ≡ lt h y = iff (lt h x) (lt h y) (λ k. lt_of_lt_of_le h x y k (le_of_eq x y e)) (λ k. lt_of_lt_of_le h y x k (ge_of_eq x y e)) in
    rw (a, b) (go (lt y l) (lt h y))
  where
    go : (v w : Bool) → T (eq (cond v l (cond w h x)) (cond v l (cond w h y)))
    go true w = eq_refl l (le_left l h o)
    go false true = eq_refl h (le_right l h o)
    go false false = e

-- ---- the laws, as the contracts name them

pub total_order : TotalOrder
unfolding inside
total_order =
    record {
      reflexive = le_refl;
      antisymmetric = le_antisym;
      transitive = le_trans;
      total = λ x y p q. either (le x y) (lt_of_not-le x y p q);
      numbers = λ x y h. (le_left x y h, le_right x y h);
      bounded = λ x low high p q h. finite_between x low high p q (and_l (le low x) (le x high) h) (and_r (le low x) (le x high) h);
    }
  where
    either : {A : Type 0} (b : Bool) → (T (not b) → A) → T b ⊎ A
    either true f = inl tt
    either false f = inr (f tt)

pub equality : Equality
equality = record { reflexive = eq_refl; symmetric = eq_sym; transitive = eq_trans; before = eq_le; after = le_eq }

pub brought_in : (x low high : Float) → Brought x low high
brought_in x low high =
    record {
      above = bring_low x low high;
      below = bring_high x low high;
      unchanged = bring_same x low high;
      stays_finite = λ n o p q. finite_between (brought x low high) low high p q (bring_low x low high n o) (bring_high x low high n o);
    }
