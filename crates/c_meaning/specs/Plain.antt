-- From the code to plain data.
use Rattle.std.specs.Prelude.{map}
use Rattle.c_meaning.specs.Tree as t
use Rattle.c_meaning.specs.declared.term.Term as term
use Rattle.c_meaning.specs.declared.term.Term.TheVariants.{Int, Truth, Null, Var, Neg', Not', Bin'}
use Rattle.c_meaning.specs.declared.term.Place as place
use Rattle.c_meaning.specs.declared.term.Place.TheVariants.{Whole, At, Field}
use Rattle.c_meaning.specs.declared.term.Basic as basic
use Rattle.c_meaning.specs.declared.term.Basic.TheVariants.{Load, Store, Cas, Make, Free, NewLock, Acquire, Release, Read, Print, Call, Fork, Join, Return}

abbrev pub plain_term : term.Term → t.Term
plain_term (Int n) = t.Int n
plain_term (Truth b) = t.Truth b
plain_term Null = t.Null
plain_term (Var x) = t.Var x
plain_term (Neg' q e) = t.Neg (plain_term e)
plain_term (Not' q e) = t.Not (plain_term e)
plain_term (Bin' op q a r b) = t.Bin op (plain_term a) (plain_term b)

abbrev pub plain_place : place.Place → t.Place
plain_place (Whole base) = t.Whole base
plain_place (At base index) = t.At base (plain_term index)
plain_place (Field base field) = t.Field base field

abbrev pub plain_basic : basic.Basic → t.Basic
plain_basic (Load x place atomic) = t.Load x (plain_place place) atomic
plain_basic (Store place e atomic) = t.Store (plain_place place) (plain_term e) atomic
plain_basic (Cas x base old new) = t.Cas x base (plain_term old) (plain_term new)
plain_basic (Make x atomic first count) = t.Make x atomic (map plain_term first) (plain_term count)
plain_basic (Free base) = t.Free base
plain_basic (NewLock x) = t.NewLock x
plain_basic (Acquire lock) = t.Acquire lock
plain_basic (Release lock) = t.Release lock
plain_basic (Read x) = t.Read x
plain_basic (Print e) = t.Print (plain_term e)
plain_basic (Call into f args) = t.Call into f (map plain_term args)
plain_basic (Fork f args) = t.Fork f (map plain_term args)
plain_basic Join = t.Join
plain_basic (Return e) = t.Return (plain_term e)
