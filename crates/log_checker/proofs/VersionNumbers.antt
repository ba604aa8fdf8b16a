-- Versions of logs and their numbers.
use Rattle.std.proofs.Common.{◌≡◌, ℕ, zero, suc, refl, lit≤, arith}
use Rattle.geo_lowering.specs.declared.version.Version.{Version}
use Rattle.geo_lowering.specs.declared.version.Version.TheVariants.{One, Two}
use Rattle.proof_log.specs.Writable.{IsVersion}
use Rattle.log_checker.specs.Subjects.{version_number}

-- a number is that of one version
pub one_version : (v w : Version) → version_number v ≡ version_number w → v ≡ w
one_version One One e = refl
one_version One Two e = absurd (let n : ◌≡◌ {A = ℕ} 1 2 = e in omega (arith, n))
one_version Two One e = absurd (let n : ◌≡◌ {A = ℕ} 2 1 = e in omega (arith, n))
one_version Two Two e = refl

-- it is one of the format
pub version_is : (v : Version) → IsVersion (version_number v)
version_is One = (lit≤ tt, lit≤ tt)
version_is Two = (lit≤ tt, lit≤ tt)

-- and each of the format is that of a version
pub version_told : (n : ℕ) → IsVersion n → (v : Version) × (version_number v ≡ n)
version_told zero h = absurd (omega (arith, h.0))
version_told (suc zero) h = (One, refl)
version_told (suc (suc zero)) h = (Two, refl)
version_told (suc (suc (suc n))) h = absurd (omega (arith, h.1))
