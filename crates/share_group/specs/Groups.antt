-- What contracts see of a share group.
use Rattle.std.specs.Prelude.{◌≡◌, ℕ, ◌+◌, ◌<◌, ◌^◌, List, ◌++◌, length}
use Rattle.share_group.specs.declared.names.Name.{Name}
use Rattle.share_group.specs.declared.names.NameKind.{NameKind}
use Rattle.share_group.specs.declared.names.NameKind.TheVariants.{Texture, Buffer, Renderbuffer, Framebuffer}
use Rattle.share_group.specs.Names.{objects_in}
use Rattle.share_group.specs.Trees.{TreeValue}

-- the used names of each kind, in rising order
pub record GroupValue : Type 0 where
  pub textures : List Name
  pub buffers : List Name
  pub renderbuffers : List Name
  pub framebuffers : List Name

abbrev pub names_of : NameKind → GroupValue → List Name
names_of Texture g = g.textures
names_of Buffer g = g.buffers
names_of Renderbuffer g = g.renderbuffers
names_of Framebuffer g = g.framebuffers

-- with these names of a kind, and the names of the other kinds as they were
abbrev pub with_names : NameKind → List Name → GroupValue → GroupValue
with_names Texture xs g = record g { textures = xs }
with_names Buffer xs g = record g { buffers = xs }
with_names Renderbuffer xs g = record g { renderbuffers = xs }
with_names Framebuffer xs g = record g { framebuffers = xs }

-- the objects that have a name, by kind and then by rising name
unfoldable pub edges_of : GroupValue → List ℕ
edges_of g = objects_in g.textures ++ (objects_in g.buffers ++ (objects_in g.renderbuffers ++ objects_in g.framebuffers))

-- names are 1 to 4,294,967,295
pub record IsRoot (t : TreeValue) : Type 0 where
  pub low : t.low ≡ 1
  pub last : t.last ≡ 4294967295

-- what holds between calls: the ranges, and few enough objects for their number to fit 32 bits
pub record IsGroup (textures buffers renderbuffers framebuffers : TreeValue) : Type 0 where
  pub texture : IsRoot textures
  pub buffer : IsRoot buffers
  pub renderbuffer : IsRoot renderbuffers
  pub framebuffer : IsRoot framebuffers
  pub few : length (objects_in textures.names) + length (objects_in buffers.names) + length (objects_in renderbuffers.names) + length (objects_in framebuffers.names) < 2 ^ 32
