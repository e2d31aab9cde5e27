-- Single bits of words: SPA and TRKF after each change of ALM and INH. Assumes nothing.
use Rattle.std.proofs.Common.{◌≡◌, ℕ, zero, suc, ◌*◌, ◌/◌, ◌%◌, ◌^◌, ◌<◌, Bool, true, false, cond, not, ◌&&◌, eqb, sym, refl, ap, ◌∙◌, arith}
use lib.Bits.{bit_and, bit_or, and_shr, and_mod, or_shr, or_mod, and_high, and_mask, and_zero_r, or_zero_r}
use Rattle.block.specs.declared.bits.Alarms.{Alarms}
use Rattle.block.specs.Bits.{stopped, with_spa, without_spa, tracking, with_trkf, without_trkf, alarm_bit, alarms_off, alarms_made}

-- bit k of n
abbrev bit : ℕ → ℕ → ℕ
bit k n = n / 2 ^ k % 2 ^ 1

bit_of_and : (k a b : ℕ) → bit k (bit_and a b) ≡ bit_and (bit k a) (bit k b)
bit_of_and k a b = rw (and_shr a b k, and_mod (a / 2 ^ k) (b / 2 ^ k) 1) refl

bit_of_or : (k a b : ℕ) → bit k (bit_or a b) ≡ bit_or (bit k a) (bit k b)
bit_of_or k a b = rw (or_shr a b k, or_mod (a / 2 ^ k) (b / 2 ^ k) 1) refl

-- a mask of one bit finds that bit
found : (n : ℕ) → bit_and n 0x4000 ≡ bit 14 n * 0x4000
found n = and_high n 1 14

found_13 : (n : ℕ) → bit_and n 0x2000 ≡ bit 13 n * 0x2000
found_13 n = and_high n 1 13

-- SPA and TRKF are told by their bits alone
stopped_by : (n b : ℕ) → bit 14 n ≡ b → stopped n ≡ not (eqb (b * 0x4000) 0)
stopped_by n b e = ap (λ (x : ℕ). not (eqb x 0)) (found n ∙ ap (λ (x : ℕ). x * 0x4000) e)

tracking_by : (n b : ℕ) → bit 13 n ≡ b → tracking n ≡ not (eqb (b * 0x2000) 0)
tracking_by n b e = ap (λ (x : ℕ). not (eqb x 0)) (found_13 n ∙ ap (λ (x : ℕ). x * 0x2000) e)

-- a bit that a mask keeps
kept : (k n m : ℕ) → bit k m ≡ 1 → bit k (bit_and n m) ≡ bit k n
kept k n m e = bit_of_and k n m ∙ ap (bit_and (bit k n)) e ∙ and_mask (bit k n) 1 ∙ omega arith

-- a bit that a mask clears
cleared : (k n m : ℕ) → bit k m ≡ 0 → bit k (bit_and n m) ≡ 0
cleared k n m e = bit_of_and k n m ∙ ap (bit_and (bit k n)) e ∙ and_zero_r (bit k n)

-- a bit that is not added
same : (k n m : ℕ) → bit k m ≡ 0 → bit k (bit_or n m) ≡ bit k n
same k n m e = bit_of_or k n m ∙ ap (bit_or (bit k n)) e ∙ or_zero_r (bit k n)

-- a bit that is added
added : (k n m : ℕ) → bit k m ≡ 1 → bit k (bit_or n m) ≡ 1
added k n m e = bit_of_or k n m ∙ ap (bit_or (bit k n)) e ∙ either (bit k n) (omega arith)
  where
    either : (b : ℕ) → b < 2 → bit_or b 1 ≡ 1
    either zero h = refl
    either (suc zero) h = refl
    either (suc (suc b)) h = absurd (omega arith)

-- ---- SPA

pub stop_set : (alm : ℕ) → stopped (with_spa alm) ≡ true
stop_set alm = stopped_by (with_spa alm) 1 (added 14 alm 0x4000 refl)

pub stop_cleared : (alm : ℕ) → stopped (without_spa alm) ≡ false
stop_cleared alm = stopped_by (without_spa alm) 0 (cleared 14 alm 0xbfff refl)

off_keeps : (alm : ℕ) → bit 14 (alarms_off alm) ≡ bit 14 alm
off_keeps alm = kept 14 alm 0xf7fc refl

pub stop_off : (alm : ℕ) → stopped (alarms_off alm) ≡ stopped alm
stop_off alm = stopped_by (alarms_off alm) (bit 14 alm) (off_keeps alm) ∙ sym (stopped_by alm (bit 14 alm) refl)

no_stop : (on : Bool) (inh mask : ℕ) → bit 14 mask ≡ 0 → bit 14 (alarm_bit on inh mask) ≡ 0
no_stop on inh mask e = go (on && eqb (bit_and inh (bit_or 0x8000 mask)) 0)
  where
    go : (b : Bool) → bit 14 (cond b mask 0) ≡ 0
    go true = e
    go false = refl

pub stop_made : (alm inh : ℕ) (a : Alarms) → stopped (alarms_made alm inh a) ≡ stopped alm
stop_made alm inh a =
    stopped_by (alarms_made alm inh a) (bit 14 alm)
    (same 14 _ _ (no_stop a.mla inh 0x0001 refl)
    ∙ same 14 _ _ (no_stop a.mha inh 0x0002 refl)
    ∙ same 14 _ _ (no_stop a.dmla inh 0x0800 refl)
    ∙ off_keeps alm)
    ∙ sym (stopped_by alm (bit 14 alm) refl)

-- ---- TRKF

pub track_set : (inh : ℕ) → tracking (with_trkf inh) ≡ true
track_set inh = tracking_by (with_trkf inh) 1 (added 13 inh 0x2000 refl)

pub track_cleared : (inh : ℕ) → tracking (without_trkf inh) ≡ false
track_cleared inh = tracking_by (without_trkf inh) 0 (cleared 13 inh 0xdfff refl)
