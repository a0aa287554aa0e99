-- What is found for a duty.
use Rattle.std.specs.Prelude.{◌≡◌, ℕ, ◌+◌, true, List, Result, Ok, Err, ⊤}
use Rattle.pl_forms.specs.declared.form.Form.{Form}
use Rattle.pl_forms.specs.declared.form.TermError.{TermError}
use Rattle.pl_forms.specs.declared.form.TermError.TheVariants.{TooLarge, Memory}
use Rattle.pl_forms.specs.declared.fact.Fact.{Fact}
use Rattle.pl_forms.specs.declared.fact.CertItem.{CertItem}
use Rattle.pl_forms.specs.declared.equation.Solution.{Solution}
use Rattle.pl_forms.specs.Solving.{solved}
use Rattle.pl_forms.specs.Places.{Within, AllWithin, AllSolvedWithin}
use Rattle.pl_linear.specs.declared.found.Found.{Found}
use Rattle.pl_linear.specs.declared.found.Found.TheVariants.{Cert, Point}
use Rattle.pl_linear.specs.Certificates.{is_certificate}
use Rattle.pl_linear.specs.Duty.{Done}
use Rattle.pl_linear.specs.Nodes.{IsLeastPoint}

-- a certificate where the duty is done, and else the point of least distances
abbrev pub Settles : Found → List Form → Type 0
Settles (Cert c) fs = Done fs
Settles (Point p) fs = IsLeastPoint fs p

abbrev pub FindsOf : Found → Result (List Form) TermError → Type 0
FindsOf f (Ok fs) = Settles f fs
FindsOf f (Err e) = ⊥

-- .. of the inequalities that are asked, or their refusal; or want of memory
abbrev pub Finds : Result Found TermError → Result (List Form) TermError → Type 0
Finds (Ok f) wanted = FindsOf f wanted
Finds (Err (TooLarge n)) wanted = wanted ≡ Err (TooLarge n)
Finds (Err Memory) wanted = Unit {0}

-- a fact about the items of a certificate, where it is one
abbrev pub IfCert : Found → (List CertItem → Type 0) → Type 0
IfCert (Cert c) P = P c.items
IfCert (Point p) P = ⊤

-- the items are a certificate, in rows with places for all atoms
pub record IsCertificate (eqs : List Solution) (facts : List Fact) (goal : Form) (items : List CertItem) : Type 0 where
  pub is : (atoms : ℕ) → AllSolvedWithin (atoms + 1) eqs → AllWithin (atoms + 1) facts → Within (atoms + 1) goal → is_certificate eqs facts goal items atoms ≡ true

-- .. with the facts' own equations
pub record IsCertificateOf (facts : List Fact) (goal : Form) (items : List CertItem) : Type 0 where
  pub is : (eqs : List Solution) → solved facts ≡ Ok eqs → (atoms : ℕ) → AllWithin (atoms + 1) facts → Within (atoms + 1) goal → is_certificate eqs facts goal items atoms ≡ true
