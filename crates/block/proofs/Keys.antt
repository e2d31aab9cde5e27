-- The MODE word of a mode names that mode, and the word that names a mode is that mode's. Assumes nothing.
use Rattle.std.proofs.Common.{◌≡◌, ℕ, ◌^◌, ◌<◌, Bool, true, false, T, eqb, ◌≢◌, List, [], ◌∷◌, Some, sym, refl, ◌∙◌, inl, inr, arith, eq-eqb, ne_eqb, lt-ltb}
use lib.Pow.{pow-lt}
use Rattle.std.specs.Prelude.{find}
use Rattle.std.proofs.lemmas.Bool.{cond_both, eqb-true, cases_order}
use Rattle.std.proofs.lemmas.Bool.Decides.{nat_tests}
use Rattle.terms.specs.declared.mode.Mode.{Mode}
use Rattle.terms.specs.declared.mode.Mode.TheVariants.{Man, Aut, Cas}
use Rattle.block.specs.declared.key.ModeKey.{ModeKey}
use Rattle.block.specs.Key.{key_valid, bit_word, mode_word, mode_in}

found : {X : Type 0} (p : X → Bool) (xs : List X) (x : X) → find p xs ≡ Some x → p x ≡ true
found p [] x e = cc
found p (y ∷ ys) x e = cond_both (p y) (Some y) (find p ys) (λ o. o ≡ Some x → p x ≡ true) (λ t q. cc) (λ _ q. found p ys x q) e

-- a word that names a mode is that mode's word
pub named_word : (k : ModeKey) (w : ℕ) (m : Mode) → mode_in k w ≡ Some m → w ≡ mode_word k m
named_word k w m e = eqb-true _ _ (found (λ n. eqb w (mode_word k n)) (Man ∷ Aut ∷ Cas ∷ []) m e)

-- ---- different bits have different words

word_is : (b : ℕ) → b < 16 → bit_word b ≡ 2 ^ b
word_is b h = rw (lt-ltb b 16 h) refl

apart : (a b : ℕ) → a < 16 → b < 16 → a ≢ b → eqb (bit_word a) (bit_word b) ≡ false
apart a b s t n = ne_eqb _ _ (λ e. differ (sym (word_is a s) ∙ e ∙ word_is b t))
  where
    differ : 2 ^ a ≡ 2 ^ b → ⊥
    differ e = elim (cases_order a b) [ inl q ↦ n q | inr o ↦ elim o [ inl l ↦ let h : 2 ^ a < 2 ^ b = pow-lt l in omega arith | inr g ↦ let h : 2 ^ b < 2 ^ a = pow-lt g in omega arith ] ]

valid : (k : ModeKey) → T (key_valid k) → (k.man < 16) × (k.aut < 16) × (k.cas < 16) × (k.aut ≢ k.man) × (k.cas ≢ k.man) × (k.cas ≢ k.aut)
valid k v = (grind (arith, nat_tests), grind (arith, nat_tests), grind (arith, nat_tests), λ e. grind (arith, nat_tests), λ e. grind (arith, nat_tests), λ e. grind (arith, nat_tests))

-- the word of a mode names that mode
pub word_named : (k : ModeKey) (m : Mode) → T (key_valid k) → mode_in k (mode_word k m) ≡ Some m
word_named k Man v = rw (eq-eqb (bit_word k.man) (bit_word k.man) refl) refl
word_named k Aut v = let h = valid k v in rw (apart k.aut k.man h.1 h.0 h.3, eq-eqb (bit_word k.aut) (bit_word k.aut) refl) refl
word_named k Cas v = let h = valid k v in rw (apart k.cas k.man h.2 h.0 h.4, apart k.cas k.aut h.2 h.1 h.5, eq-eqb (bit_word k.cas) (bit_word k.cas) refl) refl
