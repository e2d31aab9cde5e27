-- What was read is good; a block through a hand station is the same block, and a station through a block the same station. Assumes nothing.
use Rattle.std.specs.Prelude.{◌≡◌, ◌==◌, ℕ, Bool, true, false, cond, T, List, [], ◌∷◌, length, Ok, IfOk, refl}
use Rattle.std.proofs.Common.{sym, ap, subst, ◌∙◌, eqb→eq, arith}
use Rattle.std.specs.Float.Ieee.Bits.{of_bits-fits}
use Rattle.std.specs.Float.{float_is_finite, binary32}
use Rattle.terms.specs.declared.place.Place.TheVariants as at
use Rattle.block.specs.declared.key.ModeKey.{ModeKey}
use Rattle.block.specs.Words.{word_at, real_at, Sixteen, fill}
use Rattle.block.specs.Checks.{sound, tests, length_checks}
use Rattle.block.proofs.Passing.{both, spread, passed_next, step_passed, is_whole, whole_passes, if_ok}
use Rattle.block.proofs.Filling.{Agrees, fill_agrees, all_agree, real_kept, word_kept, fill_length}
use Rattle.loops.specs.Outcomes.{where_whole}
use Rattle.hand.specs.declared.fields.Fields.{Fields}
use Rattle.hand.specs.Checks.{station_checks, good}
use Rattle.hand.specs.Reading.{fields_of, checked_of}
use Rattle.hand.specs.Writing.{named_words}
use Rattle.hand.specs.Goodness.{man_word, goodness, is_good}

-- ---- words that reading accepts

accepted : (ws : List ℕ) (key : ModeKey) (f : Fields) → checked_of ws key ≡ Ok f → (length ws ≡ 128) × T (sound (station_checks (fields_of ws key) (word_at ws at.Mode))) × (fields_of ws key ≡ f)
accepted ws key f e =
    let a = passed_next (length_checks ws) _ f e in
    let b = passed_next (station_checks (fields_of ws key) (word_at ws at.Mode)) _ f a.1 in
    (is_whole ws a.0, b.0, cc b.1)

man_read : (f : Fields) (w : ℕ) → T (sound (station_checks f w)) → w ≡ man_word f
man_read f w t = eqb→eq w (man_word f) (spread (tests (station_checks f w)) t).1.1.0

pub reads_good : (ws : List ℕ) (key : ModeKey) → IfOk (checked_of ws key) (λ f. T (good f))
reads_good ws key = if_ok (checked_of ws key) λ f e.
    let a = accepted ws key f e in
    let g = fields_of ws key in
    subst (λ (x : Fields). T (good x)) a.2 (is_good g record { checks = subst (λ (m : ℕ). T (sound (station_checks g m))) (man_read g _ a.1) a.1; kept = of_bits-fits binary32 _ })

-- ---- the same block

pub rewrites : (ws : List ℕ) (key : ModeKey) (f : Fields) → Sixteen ws → checked_of ws key ≡ Ok f → (length ws ≡ 128) × (fill (named_words f) ws ≡ ws)
rewrites ws key f b e =
    let a = accepted ws key f e in
    let g = fields_of ws key in
    let real = (spread (tests (station_checks g (word_at ws at.Mode))) a.1).1.0 in
    let agreed : Agrees (named_words g) ws = (sym (man_read g _ a.1), (refl, (refl, all_agree ws b (at.Mv ∷ []) (both (float_is_finite (real_at ws at.Mv)) true real tt)))) in
    (a.0, subst (λ (x : Fields). fill (named_words x) ws ≡ ws) a.2 (fill_agrees (named_words g) ws agreed))

-- ---- the same station

module _ (f : Fields) (ws : List ℕ) (whole : length ws ≡ 128) (ok : T (good f)) where
  abbrev w : List ℕ
  w = fill (named_words f) ws

  fields : fields_of w f.key ≡ f
  fields =
      let alm = word_kept (named_words f) ws at.Alm f.alm (omega arith) refl in
      let inh = word_kept (named_words f) ws at.Inh f.inh (omega arith) refl in
      let mv = real_kept (named_words f) ws at.Mv f.mv (omega arith) (goodness f ok).kept refl refl in
      λ i. record { alm = alm i; inh = inh i; mv = mv i; key = f.key }

  mode : word_at w at.Mode ≡ man_word f
  mode = word_kept (named_words f) ws at.Mode (man_word f) (omega arith) refl

  same_fields : checked_of w f.key ≡ Ok f
  same_fields =
      step_passed (length_checks w) _ (whole_passes w (fill_length (named_words f) ws ∙ whole))
      ∙ step_passed (station_checks (fields_of w f.key) (word_at w at.Mode)) _ (subst T (λ i. sound (station_checks (sym fields i) (sym mode i))) (goodness f ok).checks)
      ∙ ap Ok fields

pub rereads : (f : Fields) (ws : List ℕ) → T (good f) → length ws ≡ 128 → checked_of (fill (named_words f) ws) f.key ≡ Ok f
rereads f ws t whole = same_fields f ws whole t

pub restarts : (f : Fields) (ws : List ℕ) → f ≡ where_whole ws f f
restarts f ws = go (length ws == 128)
  where
    go : (b : Bool) → f ≡ cond b f f
    go true = refl
    go false = refl
