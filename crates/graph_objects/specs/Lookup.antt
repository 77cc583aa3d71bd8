-- What a look-up by a key finds.
use Rattle.std.specs.Prelude.{◌≡◌, Option, Some}
use Rattle.kern_model.specs.declared.object.Object.{Object}
use Rattle.kern_model.specs.ObjectOrder.{Objects, Has}
use Rattle.graph_objects.specs.Keys.{key_of}

-- the object of a set that has the key of this one, or none where there is none
pub record IsFound (objects : Objects) (o : Object) (found : Option Object) : Type 0 where
  pub has : (x : Object) → found ≡ Some x → Has objects x
  pub at : (x : Object) → found ≡ Some x → key_of x ≡ key_of o
  pub all : (x : Object) → Has objects x → key_of x ≡ key_of o → found ≡ Some x
