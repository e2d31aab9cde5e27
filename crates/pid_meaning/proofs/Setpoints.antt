-- Step 2: S, the setpoint of a remote value, and E2 lie in their ranges, and binary32 holds them. Assumes nothing.
use Rattle.std.proofs.Common.{T, Some, None, Option}
use lib.Ieee.{Float, binary32, fits, le, of_bits}
use lib.Ieee.Fits.{add-fits, mul-fits}
use lib.Ieee.Bits.{of_bits-fits}
use Rattle.std.specs.Float.Order.{le_trans}
use Rattle.terms.specs.declared.mode.Mode.{Mode}
use Rattle.terms.specs.declared.mode.Mode.TheVariants.{Man, Aut, Cas}
use Rattle.reals.specs.Numbers.{zero, hundred, bottom, top, least, most}
use Rattle.reals.specs.Reals.{Within}
use Rattle.reals.proofs.OrderLaws.{bring_in, percent_in as brought_percent, finite_number}
use Rattle.reals.proofs.Finite.{percent_finite, remote_finite}
use Rattle.reals.proofs.Chains.{brought_by}
use Rattle.block.proofs.Passing.{both}
use Rattle.loops.specs.Inputs.{RemoteHeld}
use Rattle.loops.proofs.Given.{RemoteIn}
use Rattle.pid_fields.specs.declared.fields.Fields.{Fields}
use Rattle.pid_fields.specs.Checks.{good_e2}
use Rattle.pid_steps.specs.Setpoint.{percent_at, percent_of, remote_sv, aim_of}
use Rattle.pid_meaning.proofs.Facts.{Facts}

bottom_zero : T (le bottom zero)
bottom_zero = unfold le in unfold of_bits in tt

hundred_top : T (le hundred top)
hundred_top = unfold le in unfold of_bits in tt

module _ (f : Fields) (k : Facts f) where
  abbrev rl : Float
  rl = f.bounds.rl

  abbrev rh : Float
  rh = f.bounds.rh

  pub percent_in : (sv : Float) → Within sv rl rh → Within (percent_at sv f.bounds) zero hundred
  percent_in sv w =
      let p = percent_finite rh rl sv k.rh k.rl k.wide (le_trans least rl sv k.rl.0 w.0, le_trans sv rh most w.1 k.rh.1) in
      brought_percent _ (finite_number _ p.3)

  pub percent_fits : (sv : Float) → T (fits binary32 (percent_at sv f.bounds))
  percent_fits sv = brought_by (λ z. T (fits binary32 z)) _ _ _ (mul-fits _ _ _) (of_bits-fits _ 0) (of_bits-fits _ 0x42c8_0000)

  pub percent_wide : (sv : Float) → Within sv rl rh → Within (percent_at sv f.bounds) bottom top
  percent_wide sv w = let p = percent_in sv w in (le_trans _ _ _ bottom_zero p.0, le_trans _ _ _ p.1 hundred_top)

  pub good_aim : (e2 : Float) → Within e2 bottom top → T (fits binary32 e2) → T (good_e2 e2)
  unfolding good_e2
  good_aim e2 w h = both _ _ w.0 (both _ _ w.1 h)

  pub good_percent : T (good_e2 (percent_of f))
  good_percent = good_aim (percent_of f) (percent_wide f.sv k.sv) (percent_fits f.sv)

  -- RL is at most RH, since SV lies between them
  remote_in : (r : Float) → Within r bottom top → Within (remote_sv r f.bounds) rl rh
  remote_in r w =
      let q = remote_finite rh rl r k.rh k.rl w.0 w.1 in
      bring_in _ _ _ (finite_number _ q.2) (le_trans _ _ _ k.sv.0 k.sv.1)

  remote_fits : (r : Float) → T (fits binary32 (remote_sv r f.bounds))
  remote_fits r = brought_by (λ z. T (fits binary32 z)) _ _ _ (add-fits _ _ _) k.rl_fits k.rh_fits

  -- ---- what a scan aims at, by its mode

  pub aim_sv : (mode : Mode) (r : Option Float) → RemoteIn r → Within (aim_of mode f.sv f.bounds r).sv rl rh × T (fits binary32 (aim_of mode f.sv f.bounds r).sv)
  aim_sv Man r i = (k.sv, k.sv_fits)
  aim_sv Aut r i = (k.sv, k.sv_fits)
  aim_sv Cas None i = (k.sv, k.sv_fits)
  aim_sv Cas (Some r) i = (remote_in r i, remote_fits r)

  pub aim_e2 : (mode : Mode) (r : Option Float) → RemoteIn r → RemoteHeld r → T (good_e2 (aim_of mode f.sv f.bounds r).e2)
  aim_e2 Man r i h = good_percent
  aim_e2 Aut r i h = good_percent
  aim_e2 Cas None i h = good_percent
  aim_e2 Cas (Some r) i h = good_aim r i h
