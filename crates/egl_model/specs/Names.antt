-- Names of a share group (OpenGL ES 1.1, section 3.7.11).
use Rattle.std.specs.Prelude.{ℕ, ℤ, pos, false, List, [], map, if◌then◌else◌, is_some, Option}
use Rattle.std.specs.Option.{option_map_or}
use Rattle.driver_objects.specs.Links.{linked_names}
use Rattle.driver_objects.specs.declared.kinds.ObjectKind.{ObjectKind}
use Rattle.driver_objects.specs.declared.kinds.ObjectKind.TheVariants.{Texture as a_texture, Buffer as a_buffer, Renderbuffer as a_renderbuffer, Framebuffer as a_framebuffer}
use Rattle.share_group.specs.declared.names.NameKind.TheVariants.{Texture, Buffer, Renderbuffer, Framebuffer}
use Rattle.share_group.specs.declared.names.Name.{Name}
use Rattle.share_group.specs.declared.names.NameKind.{NameKind}
use Rattle.share_group.specs.Groups.{GroupValue, names_of, with_names}
use Rattle.share_group.specs.Names.{after, given, object_of}
use Rattle.egl_model.specs.State.{State}
use Rattle.egl_model.specs.Effects.{Effect}
use Rattle.egl_model.specs.Objects.{change_group, context_in, group_in}

-- the kind of the objects that names of a kind have
abbrev pub kind_named : NameKind → ObjectKind
kind_named Texture = a_texture
kind_named Buffer = a_buffer
kind_named Renderbuffer = a_renderbuffer
kind_named Framebuffer = a_framebuffer

-- the group of a context
abbrev pub group_of : State → ℕ → ℕ
group_of s n = option_map_or (λ x. x.group) (context_in s.objects n) 0

-- the names of a kind in a group, and the object of one
abbrev pub names_in : State → ℕ → NameKind → List Name
names_in s g k = option_map_or (names_of k) (group_in s.objects g) []

abbrev pub object_named : State → ℕ → NameKind → ℕ → Option ℕ
object_named s g k name = object_of name (names_in s g k)

-- whether a name has an object
abbrev pub name_value : Option ℕ → ℤ
name_value o = pos (if is_some o then 1 else 0)

-- a group in which so many names more are used, or in which a name has an object or is freed
abbrev pub with_more : NameKind → ℕ → GroupValue → GroupValue
with_more k count g = with_names k (after count (names_of k g)) g

abbrev pub with_name_of : NameKind → ℕ → Option ℕ → GroupValue → GroupValue
with_name_of k name o g = with_names k (linked_names name o (names_of k g)) g

-- glGenTextures and its kin: so many of the smallest unused names are used from then on
abbrev pub generated : State → ℕ → NameKind → ℕ → Effect
generated s g k count = record {
  waits = false;
  value = pos 0;
  list = map (λ i. pos i) (given count (names_in s g k));
  bytes = [];
  state = record s { objects = change_group (with_more k count) g s.objects };
}
