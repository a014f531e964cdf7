-- Statements on the objects of the catalogue, without where they lie in memory.
use Rattle.std.specs.Prelude.{map, option_map}
use Rattle.std.specs.String.{string_bytes}
use Rattle.med_syntax.specs.declared.ddl.GenericOption.{GenericOption}
use Rattle.med_syntax.specs.declared.ddl.MappingUser.{MappingUser}
use Rattle.med_syntax.specs.declared.ddl.MappingUser.TheVariants as u
use Rattle.med_syntax.specs.declared.ddl.TableColumn.{TableColumn}
use Rattle.med_syntax.specs.declared.ddl.CreateServer.{CreateServer}
use Rattle.med_syntax.specs.declared.ddl.CreateMapping.{CreateMapping}
use Rattle.med_syntax.specs.declared.ddl.CreateTable.{CreateTable}
use Rattle.med_syntax.specs.declared.ddl.Ddl.{Ddl}
use Rattle.med_syntax.specs.declared.ddl.Ddl.TheVariants as d
use Rattle.med_syntax.specs.DdlTree.{OptionTree, UserTree, everybody, session_user, user_named, ColumnTree, ServerTree, MappingTree, TableTree, DdlTree, create_wrapper, create_server, create_mapping, create_table, drop_wrapper, drop_server, drop_table, drop_mapping}

abbrev pub option_tree : GenericOption → OptionTree
option_tree o = record { label = string_bytes o.label; text = string_bytes o.text }

abbrev pub user_tree : MappingUser → UserTree
user_tree u.Public = everybody
user_tree u.Session = session_user
user_tree (u.Named n) = user_named (string_bytes n)

abbrev pub column_tree : TableColumn → ColumnTree
column_tree c = record {
  name = string_bytes c.name;
  type_name = string_bytes c.type_name;
  options = map option_tree c.options.items;
  not_null = c.not_null;
}

abbrev pub server_tree : CreateServer → ServerTree
server_tree s = record {
  if_not_exists = s.if_not_exists;
  name = string_bytes s.name;
  server_type = option_map string_bytes s.server_type;
  version = option_map string_bytes s.version;
  wrapper = string_bytes s.wrapper;
  options = map option_tree s.options.items;
}

abbrev pub mapping_tree : CreateMapping → MappingTree
mapping_tree m = record {
  if_not_exists = m.if_not_exists;
  user = user_tree m.user;
  server = string_bytes m.server;
  options = map option_tree m.options.items;
}

abbrev pub table_tree : CreateTable → TableTree
table_tree t = record {
  if_not_exists = t.if_not_exists;
  name = string_bytes t.name;
  columns = map column_tree t.columns.items;
  server = string_bytes t.server;
  options = map option_tree t.options.items;
}

abbrev pub ddl_tree : Ddl → DdlTree
ddl_tree (d.CreateWrapper w) = create_wrapper (string_bytes w.name) (string_bytes w.handler)
ddl_tree (d.CreateServer s) = create_server (server_tree s)
ddl_tree (d.CreateMapping m) = create_mapping (mapping_tree m)
ddl_tree (d.CreateTable t) = create_table (table_tree t)
ddl_tree (d.DropWrapper x) = drop_wrapper x.if_exists (string_bytes x.name)
ddl_tree (d.DropServer x) = drop_server x.if_exists (string_bytes x.name)
ddl_tree (d.DropTable x) = drop_table x.if_exists (string_bytes x.name)
ddl_tree (d.DropMapping x) = drop_mapping x.if_exists (user_tree x.user) (string_bytes x.server)
