pub mod PadsViews
