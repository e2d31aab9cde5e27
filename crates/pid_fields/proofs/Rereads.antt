-- Fields that were read fill their words with what these hold, and fields that were written are read again. Assumes nothing.
use Rattle.std.proofs.Common.{◌≡◌, ℕ, ◌+◌, ◌<◌, true, ◌&&◌, T, List, [], ◌∷◌, ◌++◌, length, get_or, set, is_some, Some, Ok, sym, refl, ap, ◌∙◌, subst, lit<, arith}
use lib.Ieee.{Float, binary32, fits}
use Rattle.terms.specs.declared.place.Place.{Place}
use Rattle.terms.specs.declared.place.Place.TheVariants as at
use Rattle.terms.specs.Refusals.{place_number}
use Rattle.reals.specs.Reals.{low_word, high_word}
use Rattle.block.specs.Words.{word_at, real_at, Sixteen, fill}
use Rattle.block.specs.Key.{key_valid, mode_in, mode_word}
use Rattle.block.specs.Checks.{length_checks, sound}
use Rattle.block.proofs.Passing.{split, spread, step_passed, whole_passes}
use Rattle.block.proofs.Filling.{look, Agrees, fill_agrees, drop_agrees, all_agree, real_kept, word_kept, fill_length}
use Rattle.block.proofs.Keys.{named_word, word_named}
use Rattle.pid_fields.specs.declared.fields.Settings.{Settings}
use Rattle.pid_fields.specs.declared.fields.Fields.{Fields}
use Rattle.pid_fields.specs.Checks.{settings_checks, finite_checks, range_checks, relation_checks, held, tuning_held, past_held, good}
use Rattle.pid_fields.specs.Reading.{bounds_of, tuning_of, past_of, mode_named, or_man, fields_of, mode_checks, checked_of}
use Rattle.pid_fields.specs.Writing.{copy_words, named_words, filled, with_copy}
use Rattle.pid_fields.proofs.Goodness.{Good, goodness}
use Rattle.pid_fields.proofs.Accepts.{Accepted, accepted}

-- ---- what was read, written

-- the places of the reals, offsets rising
abbrev real_places : List Place
real_places =
    at.Mv ∷ at.Sv ∷ at.Mh ∷ at.Ml ∷ at.Rh ∷ at.Rl ∷ at.Ct ∷ at.Dml ∷ at.P ∷ at.Ti ∷ at.Td ∷ at.Gw ∷ at.Gg
    ∷ at.Mvp ∷ at.B ∷ at.Measured ∷ at.Measured1 ∷ at.Measured2 ∷ at.LastDv ∷ []

-- what was read fills the named words with what they hold
agreed : (ws : List ℕ) (st : Settings) (f : Fields) → Sixteen ws → Accepted ws st f → Agrees (named_words (fields_of ws st)) ws
agreed ws st f b a =
    let m : mode_word st.key (or_man (mode_named ws st)) ≡ get_or ws 1 0 = sym (named_word st.key (get_or ws 1 0) (or_man (mode_named ws st)) a.mode) in
    (m, (refl, (refl, (refl, all_agree ws b real_places a.reals))))

pub same_words : (ws : List ℕ) (st : Settings) (f : Fields) → Sixteen ws → checked_of ws st ≡ Ok f → filled f ws ≡ with_copy ws
same_words ws st f b e =
    let a = accepted ws st f e in
    let g = fields_of ws st in
    let last = drop_agrees 40 (named_words g) ws (agreed ws st f b a) in
    subst (λ (x : Fields). filled x ws ≡ with_copy ws) a.fields
    (ap (λ (v : List ℕ). fill (copy_words g.past) v) (fill_agrees (named_words g) ws (agreed ws st f b a)) ∙ (λ i. set (set ws 16 (last.0 i)) 17 (last.1.0 i)))

-- ---- what was written, read

abbrev all_words : Fields → List (ℕ × ℕ)
all_words f = named_words f ++ copy_words f.past

module _ (f : Fields) (ws : List ℕ) (whole : length ws ≡ 128) (ok : T (good f)) where
  g : Good f
  g = goodness f ok

  abbrev w : List ℕ
  w = filled f ws

  kept : (p : Place) (x : Float) → place_number p + 1 < 128 → T (fits binary32 x)
      → look (all_words f) (place_number p) (get_or ws (place_number p) 0) ≡ low_word x → look (all_words f) (place_number p + 1) (get_or ws (place_number p + 1) 0) ≡ high_word x → real_at w p ≡ x
  kept p x l h a b = real_kept (all_words f) ws p x (omega arith) h a b

  word : (p : Place) (x : ℕ) → place_number p < 128 → look (all_words f) (place_number p) (get_or ws (place_number p) 0) ≡ x → word_at w p ≡ x
  word p x l e = word_kept (all_words f) ws p x (omega arith) e

  bounds : bounds_of w ≡ f.bounds
  bounds =
      let k = (spread (held f) g.kept).1.1 in
      let mh = kept at.Mh f.bounds.mh (lit< tt) k.0 refl refl in
      let ml = kept at.Ml f.bounds.ml (lit< tt) k.1.0 refl refl in
      let rh = kept at.Rh f.bounds.rh (lit< tt) k.1.1.0 refl refl in
      let rl = kept at.Rl f.bounds.rl (lit< tt) k.1.1.1.0 refl refl in
      λ i. record { mh = mh i; ml = ml i; rh = rh i; rl = rl i }

  tuning : tuning_of w ≡ f.tuning
  tuning =
      let t = f.tuning in
      let k = spread (tuning_held t) g.tuning_kept in
      let ct = kept at.Ct t.ct (lit< tt) k.0 refl refl in
      let dml = kept at.Dml t.dml (lit< tt) k.1.0 refl refl in
      let p = kept at.P t.p (lit< tt) k.1.1.0 refl refl in
      let ti = kept at.Ti t.ti (lit< tt) k.1.1.1.0 refl refl in
      let td = kept at.Td t.td (lit< tt) k.1.1.1.1.0 refl refl in
      let gw = kept at.Gw t.gw (lit< tt) k.1.1.1.1.1.0 refl refl in
      let gg = kept at.Gg t.gg (lit< tt) k.1.1.1.1.1.1.0 refl refl in
      λ i. record { ct = ct i; dml = dml i; p = p i; ti = ti i; td = td i; gw = gw i; gg = gg i }

  past : past_of w ≡ f.past
  past =
      let p = f.past in
      let k = spread (past_held p) g.past_kept in
      let mvp = kept at.Mvp p.mvp (lit< tt) k.0 refl refl in
      let b = kept at.B p.b (lit< tt) k.1.0 refl refl in
      let m = kept at.Measured p.measured (lit< tt) k.1.1.0 refl refl in
      let m1 = kept at.Measured1 p.measured1 (lit< tt) k.1.1.1.0 refl refl in
      let m2 = kept at.Measured2 p.measured2 (lit< tt) k.1.1.1.1.0 refl refl in
      let dv = kept at.LastDv p.dv (lit< tt) k.1.1.1.1.1.0 refl refl in
      λ i. record { mvp = mvp i; b = b i; measured = m i; measured1 = m1 i; measured2 = m2 i; dv = dv i }

  mode : mode_named w f.settings ≡ Some f.mode
  mode =
      let key = f.settings.key in
      let v : T (key_valid key) = (split (key_valid key) _ g.settings).0 in
      ap (mode_in key) (word at.Mode (mode_word key f.mode) (lit< tt) refl) ∙ word_named key f.mode v

  -- the fields that the written words hold
  fields : fields_of w f.settings ≡ f
  fields =
      let k = spread (held f) g.kept in
      let m : or_man (mode_named w f.settings) ≡ f.mode = ap or_man mode in
      let alm = word at.Alm f.alm (lit< tt) refl in
      let inh = word at.Inh f.inh (lit< tt) refl in
      let counter = word at.Counter f.counter (lit< tt) refl in
      let mv = kept at.Mv f.mv (lit< tt) k.0 refl refl in
      let sv = kept at.Sv f.sv (lit< tt) k.1.0 refl refl in
      λ i. record { mode = m i; alm = alm i; inh = inh i; mv = mv i; sv = sv i; counter = counter i; bounds = bounds i; tuning = tuning i; past = past i; settings = f.settings }

  pub same_fields : checked_of w f.settings ≡ Ok f
  same_fields =
      let st = f.settings in
      let again = fields_of w st in
      step_passed (length_checks w) _ (whole_passes w (fill_length (copy_words f.past) (fill (named_words f) ws) ∙ fill_length (named_words f) ws ∙ whole))
      ∙ step_passed (settings_checks st) _ g.settings
      ∙ step_passed (finite_checks again) _ (subst T (λ i. sound (finite_checks (sym fields i))) g.reals)
      ∙ step_passed (mode_checks w st) _ (subst T (λ i. is_some (sym mode i) && true) tt)
      ∙ step_passed (range_checks again) _ (subst T (λ i. sound (range_checks (sym fields i))) g.ranges)
      ∙ step_passed (relation_checks again) _ (subst T (λ i. sound (relation_checks (sym fields i))) g.related)
      ∙ ap Ok fields
