-- What filled words hold. Assumes nothing.
use Rattle.std.proofs.Common.{◌≡◌, ℕ, zero, suc, ◌+◌, ◌<◌, cond, T, eqb, List, [], ◌∷◌, ◌++◌, length, get_or, drop, set, sym, refl, ap, ◌∙◌, subst, arith, length-set, get_or-set_other, eq-eqb, ne_eqb, inl, inr}
use lib.Seq.{set-get_or}
use lib.Ieee.{Float, binary32, fits}
use Rattle.std.specs.Float.{float_is_finite}
use Rattle.std.proofs.lemmas.Bool.{cases_eq}
use Rattle.std.proofs.lemmas.Grind.{get_or-set_at}
use Rattle.reals.specs.Reals.{real_of, low_word, high_word}
use Rattle.reals.proofs.Bits.{real_back, low_back, high_back}
use Rattle.terms.specs.declared.place.Place.{Place}
use Rattle.terms.specs.Refusals.{place_number}
use Rattle.block.specs.Words.{word_at, real_at, Sixteen, fill, two_words}
use Rattle.block.specs.declared.checks.Check.{Check}
use Rattle.block.specs.Checks.{sound, is_finite}
use Rattle.block.proofs.Passing.{split}

-- what a list of fillings puts at offset i, over w
abbrev pub look : List (ℕ × ℕ) → ℕ → ℕ → ℕ
look [] i w = w
look (e ∷ es) i w = look es i (cond (eqb i e.0) e.1 w)

pub fill_length : (es : List (ℕ × ℕ)) (ws : List ℕ) → length (fill es ws) ≡ length ws
fill_length [] ws = refl
fill_length (e ∷ es) ws = fill_length es (set ws e.0 e.1) ∙ length-set ws e.0 e.1

one_filled : (ws : List ℕ) (j w i : ℕ) → i < length ws → get_or (set ws j w) i 0 ≡ cond (eqb i j) w (get_or ws i 0)
one_filled ws j w i h = elim (cases_eq i j) [ inl e ↦ rw (eq-eqb i j e) (get_or-set_at ws j i w 0 e (omega arith)) | inr n ↦ rw (ne_eqb i j n) (get_or-set_other ws j i w 0 n) ]

pub fill_get : (es : List (ℕ × ℕ)) (ws : List ℕ) (i : ℕ) → i < length ws → get_or (fill es ws) i 0 ≡ look es i (get_or ws i 0)
fill_get [] ws i h = refl
fill_get (e ∷ es) ws i h =
    fill_get es (set ws e.0 e.1) i (subst (λ (n : ℕ). i < n) (sym (length-set ws e.0 e.1)) h)
    ∙ ap (look es i) (one_filled ws e.0 e.1 i h)

-- ---- filled by what they hold, words stay

abbrev pub Agrees : List (ℕ × ℕ) → List ℕ → Type 0
Agrees [] ws = Unit {0}
Agrees (e ∷ es) ws = (e.1 ≡ get_or ws e.0 0) × Agrees es ws

pub fill_agrees : (es : List (ℕ × ℕ)) (ws : List ℕ) → Agrees es ws → fill es ws ≡ ws
fill_agrees [] ws h = refl
fill_agrees (e ∷ es) ws h =
    ap (λ (v : List ℕ). fill es v) (ap (λ (w : ℕ). set ws e.0 w) h.0 ∙ set-get_or ws e.0 0) ∙ fill_agrees es ws h.1

-- ---- a real that was filled in is read again

pub real_kept : (es : List (ℕ × ℕ)) (ws : List ℕ) (p : Place) (x : Float) → place_number p + 1 < length ws → T (fits binary32 x)
    → look es (place_number p) (get_or ws (place_number p) 0) ≡ low_word x → look es (place_number p + 1) (get_or ws (place_number p + 1) 0) ≡ high_word x → real_at (fill es ws) p ≡ x
real_kept es ws p x h f a b =
    let i : place_number p < length ws = omega arith in
    (λ k. real_of ((fill_get es ws (place_number p) i ∙ a) k) ((fill_get es ws (place_number p + 1) h ∙ b) k)) ∙ real_back x f

-- a word that was filled in is read again
pub word_kept : (es : List (ℕ × ℕ)) (ws : List ℕ) (p : Place) (w : ℕ) → place_number p < length ws → look es (place_number p) (get_or ws (place_number p) 0) ≡ w → word_at (fill es ws) p ≡ w
word_kept es ws p w h e = fill_get es ws (place_number p) h ∙ e

-- ---- finite reals that were read have the words that they were read from

pub drop_agrees : (n : ℕ) (es : List (ℕ × ℕ)) (ws : List ℕ) → Agrees es ws → Agrees (drop n es) ws
drop_agrees zero es ws a = a
drop_agrees (suc n) [] ws a = tt
drop_agrees (suc n) (e ∷ es) ws a = drop_agrees n es ws a.1

abbrev pub finite_all : List ℕ → List Place → List Check
finite_all ws [] = []
finite_all ws (p ∷ ps) = is_finite p (real_at ws p) ∷ finite_all ws ps

abbrev pub words_all : List ℕ → List Place → List (ℕ × ℕ)
words_all ws [] = []
words_all ws (p ∷ ps) = two_words p (real_at ws p) ++ words_all ws ps

pub all_agree : (ws : List ℕ) → Sixteen ws → (ps : List Place) → T (sound (finite_all ws ps)) → Agrees (words_all ws ps) ws
all_agree ws b [] t = tt
all_agree ws b (p ∷ ps) t =
    let s = split (float_is_finite (real_at ws p)) (sound (finite_all ws ps)) t in
    let n = place_number p in
    (low_back (get_or ws n 0) (get_or ws (n + 1) 0) (b n) (b (n + 1)) s.0, (high_back (get_or ws n 0) (get_or ws (n + 1) 0) (b n) (b (n + 1)) s.0, all_agree ws b ps s.1))
